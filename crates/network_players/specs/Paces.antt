-- How a player waits between its messages.
use Rattle.std.specs.Prelude.{◌≡◌, ◌+◌, ◌*◌, ◌-◌, ◌^◌, false, true, min}
use Rattle.std.specs.Duration.{as_nanos}
use Rattle.network_players.specs.declared.signal.Pace.{Pace}

-- The player got one more message and has answered it: its next wait is a first wait.
pub record HasAnswered (before after : Pace) : Type 0 where
  pub messages : after.messages ≡ min (2 ^ 64 - 1) (before.messages + 1)
  pub rest : as_nanos after.rest ≡ 100000000
  pub rested : after.has_rested ≡ false
  pub left : after.has_left ≡ before.has_left

-- The player has waited: its next wait is twice as long, up to two seconds.
pub record HasRested (before after : Pace) : Type 0 where
  pub messages : after.messages ≡ before.messages
  pub rest : as_nanos after.rest ≡ min 2000000000 (as_nanos before.rest * 2)
  pub rested : after.has_rested ≡ true
  pub left : after.has_left ≡ before.has_left
