use Rattle.std.proofs.Common.{◌≡◌, ◌++◌, take}
use Rattle.game_commands.specs.Script.{records}
use Rattle.game_commands.proofs.answers.push_records.Given as goal

abbrev pub invariant-loop-place : goal.invariant-loop-place
invariant-loop-place g l = l.out.items ≡ l.initial.out.items ++ records g.G.Game.rules l.manager (take l.place l.manager.matches)
