use Rattle.std.proofs.Common.{◌≡◌, vec_len}
use Rattle.std.specs.Prelude.{IfSome, slice_get}
use Rattle.role_workers.specs.Places.{EachAt}
use Rattle.match_play.specs.PlayedMatches.{role_place}
use Rattle.match_play.proofs.playing.players_of.Given as goal

abbrev pub invariant-loop-role : goal.invariant-loop-role
invariant-loop-role g l = record {
  count : vec_len l.players ≡ l.role;
  each : EachAt (λ role player. IfSome (slice_get l.plan.players.items role) (λ address. g.S.Reach.is_reached l.reach (role_place l.longest_move l.place l.plan role) address player)) l.players.items;
}
