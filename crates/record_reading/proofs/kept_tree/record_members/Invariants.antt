use Rattle.std.proofs.Common.{◌≡◌, ℕ, ◌≤◌, length}
use Rattle.json.specs.Json.{members, value}
use Rattle.serde_json.specs.Data.{Members, no_members}
use Rattle.serde_json.specs.Read.{of_members, converted}
use Rattle.serde_json.specs.View.{members_view}
use Rattle.record_reading.specs.Internal.KeptTree.{AreKeptMembers}
use Rattle.record_reading.proofs.kept_tree.record_members.Given as goal

abbrev pub invariant-members : goal.invariant-members
invariant-members l =
    (n : ℕ) × (ms : Members) × (length l.reader ≤ n)
    × (converted (λ js. of_members js no_members) (members (value 126) (length l.initial.reader) l.initial.reader) ≡ converted (λ js. of_members js ms) (members (value 126) n l.reader))
    × AreKeptMembers ms (members_view l.found.entries)

abbrev pub decreases-members : goal.decreases-members
decreases-members l = length l.reader
