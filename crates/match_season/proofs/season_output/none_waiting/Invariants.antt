use Rattle.std.proofs.Common.{◌≡◌, None, replicate}
use Rattle.match_season.proofs.season_output.none_waiting.Given as goal

abbrev pub invariant-loop-place : goal.invariant-loop-place
invariant-loop-place g l = l.waiting.items ≡ replicate l._place None
