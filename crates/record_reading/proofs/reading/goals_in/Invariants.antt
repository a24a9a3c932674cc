use Rattle.std.proofs.Common.{◌≡◌, ◌≤◌, map, take}
use Rattle.std.specs.Prelude.{All}
use Rattle.serde_json.specs.View.{view}
use Rattle.game_core.specs.Play.{max_goal}
use Rattle.record_reading.specs.RecordTree.{whole_tree}
use Rattle.record_reading.proofs.reading.goals_in.Given as goal

abbrev pub invariant-loop-member : goal.invariant-loop-member
invariant-loop-member l = record {
  shown : map view (take l.member-index l.members) ≡ map whole_tree l.items.items;
  small : All (λ goal. goal ≤ max_goal) l.items.items;
}
