use Rattle.std.proofs.Common.{◌≤◌, ◌+◌, length}
use Rattle.std.specs.Str.Lines.{lines}
use Rattle.desk_text.proofs.Accounts.{IsAccountSoFar}
use Rattle.desk_text.proofs.replaying.replay_lines.Given as goal

abbrev pub invariant-loop-rest : goal.invariant-loop-rest
invariant-loop-rest g l = record {
  so_far : IsAccountSoFar g.O.Object.reply g.O.Object.after l.initial.object (lines l.input) (lines l.rest) l.object l.calls;
  small : l.calls + length l.rest ≤ length l.input;
}

abbrev pub decreases-loop-rest : goal.decreases-loop-rest
decreases-loop-rest g l = length l.rest
