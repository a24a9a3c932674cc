use Rattle.std.proofs.Common.{◌≡◌, ℕ, ◌+◌, ◌*◌, ◌≤◌, List, length, map}
use Rattle.std.specs.Prelude.{option_map}
use Rattle.json.specs.Json.{items, members, value, parse_map}
use Rattle.serde_json.specs.Data.{Data, Members, no_members}
use Rattle.serde_json.specs.Read.{of_items, of_members, converted}
use Rattle.serde_json.specs.View.{view}
use Rattle.record_reading.specs.Internal.KeptTree.{kept_list}
use Rattle.record_reading.proofs.KeptReading.{before}
use Rattle.record_reading.proofs.kept_tree.+kept.Given as goal

abbrev pub decreases-value_of : goal.decreases-value_of
decreases-value_of l = 2 * l.depth

abbrev pub decreases-items_of : goal.decreases-items_of
decreases-items_of l = 2 * l.depth + 1

abbrev pub decreases-pass_members : goal.decreases-pass_members
decreases-pass_members l = 2 * l.depth + 1

abbrev pub invariant-items_of-items : goal.invariant-items_of-items
invariant-items_of-items l =
    (n : ℕ) × (ds : List Data) × (length l.reader ≤ n)
    × (converted of_items (items (value l.depth) (length l.initial.reader) l.initial.reader) ≡ parse_map (before ds) (converted of_items (items (value l.depth) n l.reader)))
    × (length l.reader ≤ length l.initial.reader) × (option_map (λ v. map view v.items) l.kept ≡ kept_list l.lists ds)

abbrev pub decreases-items_of-items : goal.decreases-items_of-items
decreases-items_of-items l = length l.reader

abbrev pub invariant-pass_members-members : goal.invariant-pass_members-members
invariant-pass_members-members l =
    (n : ℕ) × (ms : Members) × (length l.reader ≤ n)
    × (converted (λ js. of_members js no_members) (members (value l.depth) (length l.initial.reader) l.initial.reader) ≡ converted (λ js. of_members js ms) (members (value l.depth) n l.reader))
    × (length l.reader ≤ length l.initial.reader)

abbrev pub decreases-pass_members-members : goal.decreases-pass_members-members
decreases-pass_members-members l = length l.reader
