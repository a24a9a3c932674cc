-- Players on the network.
use Rattle.std.specs.Prelude.{◌≡◌, None, max, string_bytes}
use Rattle.match_plans.specs.declared.addresses.PlayerAddress.{PlayerAddress}
use Rattle.match_plans.specs.declared.reach.RolePlace.{RolePlace}
use Rattle.network_players.specs.declared.socket_player.SocketPlayer.{SocketPlayer}

-- The player has this address and this role of a match, and has received nothing yet.
pub record IsPlayerAt {H : Type 0} (at : RolePlace) (address : PlayerAddress) (player : SocketPlayer H) : Type 0 where
  pub host : string_bytes player.host ≡ address.host.now
  pub port : player.port ≡ address.port
  pub name : string_bytes player.name ≡ address.name.now
  pub free : player.budget.free ≡ max 64 at.longest_move
  pub unspent : player.budget.spent ≡ 0
  pub no_fault : player.fault ≡ None
  pub no_addresses : player.lookup.found ≡ None
