use Rattle.std.proofs.Common.{◌≡◌, drop}
use Rattle.game_core.specs.Expression.{max_depth}
use Rattle.kif_text.specs.Machine.{start, one_step, run}
use Rattle.kif_text.specs.Internal.Following.{state_of}
use Rattle.kif_text.proofs.reading.read_single.Given as goal

abbrev pub invariant-loop-at : goal.invariant-loop-at
invariant-loop-at l = run (one_step max_depth) (state_of l.reader) l.at (drop l.at l.text) ≡ run (one_step max_depth) start 0 l.text
