use Rattle.std.proofs.Common.{map}
use Rattle.match_book.specs.Phase.{goal_of}
use Rattle.match_record.specs.Internal.Written.{HasBegun}
use Rattle.record_reading.specs.RecordParts.{goals_from}
use Rattle.record_reading.specs.RecordTree.{whole_tree}
use Rattle.match_record.proofs.record.write_goals.Given as goal

abbrev pub invariant-loop-role : goal.invariant-loop-role
invariant-loop-role g l = HasBegun l.fn.out l.out (map whole_tree (goals_from l.role (goal_of (g.G.Game.rules l.game) l.held.value)))
