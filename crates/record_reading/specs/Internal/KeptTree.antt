-- The part of the tree of a record's text that is kept. Values that no record can have are left out.
use Rattle.std.specs.Prelude.{◌≡◌, ℕ, zero, suc, ◌&&◌, List, [], ◌∷◌, ◌++◌, Bool, true, false, if◌then◌else◌, Option, Some, None, option_map, ◌⊎◌}
use Rattle.serde_json.specs.Data.{Data, null, boolean, number, string, array, object, Items, no_items, item, Members, put}
use Rattle.serde_json.specs.Find.{get, get_member}
use Rattle.serde_json.specs.View.{items_of}
use Rattle.record_reading.specs.RecordTree.{key_text}
use Rattle.record_reading.specs.declared.record_parts.Key.{Key}
use Rattle.record_reading.specs.declared.verify_fault.VerifyFault.{VerifyFault}
use Rattle.record_reading.specs.declared.verify_fault.VerifyFault.TheVariants.{Memory, NotJson}

abbrev pub are_kept : (Data → Bool) → Items → Bool
are_kept is_kept no_items = true
are_kept is_kept (item d ds) = is_kept d && are_kept is_kept ds

-- Whether a value is kept if lists may nest this deep in it. At depth 0, only a text is kept.
abbrev pub is_kept : ℕ → Data → Bool
is_kept zero null = false
is_kept zero (boolean b) = false
is_kept zero (number n) = false
is_kept zero (string s) = true
is_kept zero (array ds) = false
is_kept zero (object ms) = false
is_kept (suc n) null = true
is_kept (suc n) (boolean b) = false
is_kept (suc n) (number x) = true
is_kept (suc n) (string s) = true
is_kept (suc n) (array ds) = are_kept (is_kept n) ds
is_kept (suc n) (object ms) = false

abbrev pub kept_of : ℕ → Data → Option Data
kept_of n d = if is_kept n d then Some d else None

-- the items of a list, if lists may nest this deep and each item is kept
abbrev pub kept_list : ℕ → List Data → Option (List Data)
kept_list zero ds = None
kept_list (suc n) ds = if are_kept (is_kept n) (items_of ds) then Some ds else None

-- the kept items and one more, if it is kept too
abbrev pub with_one : Option (List Data) → Option Data → Option (List Data)
with_one None o = None
with_one (Some ds) None = None
with_one (Some ds) (Some d) = Some (ds ++ d ∷ [])

-- the member at a key; if it is not kept, a truth value replaces it, which no record has
abbrev pub kept_at : Data → Data
kept_at d = if is_kept 2 d then d else boolean false

-- the members, with one more if its key is a key of a record
abbrev pub member_kept : List ℕ → ℕ → Option Data → Members → Members
member_kept k zero o ms = ms
member_kept k (suc n) None ms = put k (boolean false) ms
member_kept k (suc n) (Some d) ms = put k d ms

-- at the keys of a record, the members are those that are kept
abbrev pub AreKeptMembers : Members → Members → Type 0
AreKeptMembers ms kept = (key : Key) → get_member (key_text key) kept ≡ option_map kept_at (get_member (key_text key) ms)

abbrev pub IsKeptTree : Data → Data → Type 0
IsKeptTree tree kept = (key : Key) → get (key_text key) kept ≡ option_map kept_at (get (key_text key) tree)

-- the error is out of memory, or it is `NotJson` and nothing was read
abbrev pub IsRefused : {A : Type 0} → Option A → VerifyFault → Type 0
IsRefused read fault = (fault ≡ Memory) ⊎ ((fault ≡ NotJson) × (read ≡ None))
