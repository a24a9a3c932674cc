use Rattle.std.proofs.Common.{◌≡◌, ◌++◌, string_bytes}
use Rattle.described_games.specs.CountdownText.{steps_below}
use Rattle.described_games.proofs.countdown_text.push_steps.Given as goal

abbrev pub invariant-loop-left : goal.invariant-loop-left
invariant-loop-left l = string_bytes l.rules ≡ string_bytes l.initial.rules ++ steps_below l.size l.left
