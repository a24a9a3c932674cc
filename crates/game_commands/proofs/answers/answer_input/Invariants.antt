use Rattle.std.proofs.Common.{◌≡◌, ◌≤◌, ◌+◌, ◌++◌, length}
use Rattle.std.specs.Str.Lines.{lines}
use Rattle.game_commands.specs.Script.{answer_lines, after_lines, bad_lines}
use Rattle.game_commands.proofs.answers.answer_input.Given as goal

abbrev pub invariant-loop-rest : goal.invariant-loop-rest
invariant-loop-rest g l = record {
  text : l.text.items ++ answer_lines g.O.Object.reply g.O.Object.after l.object (lines l.rest) ≡ answer_lines g.O.Object.reply g.O.Object.after l.initial.object (lines l.input);
  bad : l.bad_lines + bad_lines (lines l.rest) ≡ bad_lines (lines l.input);
  after : after_lines g.O.Object.after l.object (lines l.rest) ≡ after_lines g.O.Object.after l.initial.object (lines l.input);
  small : l.bad_lines + length l.rest ≤ length l.input;
}

abbrev pub decreases-loop-rest : goal.decreases-loop-rest
decreases-loop-rest g l = length l.rest
