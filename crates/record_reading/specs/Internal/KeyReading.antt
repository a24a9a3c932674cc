-- How the keys of a record are read into its parts, one after another.
use Rattle.std.specs.Prelude.{◌≡◌, Bool, List, [], ◌∷◌, Option, Some, None, if◌then◌else◌}
use Rattle.std.specs.Str.{bytes_eq}
use Rattle.serde_json.specs.Data.{Data}
use Rattle.game_core.specs.Play.{Rules}
use Rattle.record_reading.specs.Internal.Shown.{Shows}
use Rattle.record_reading.specs.RecordTree.{row_of, key_text, key_tree, found_at, IsShapedAt}
use Rattle.record_reading.specs.declared.record_parts.Key.{Key}
use Rattle.record_reading.specs.declared.record_parts.RecordParts.{RecordParts}
use Rattle.record_reading.specs.declared.record_parts.Version.{Version}

-- Whether a value of the key's shape counts as found in a record of this version. If so, the parts have this value.
abbrev pub IsReadInto : {S M : Type 0} → Rules S M → Key → Option Version → Option Data → RecordParts → Bool → Type 0
IsReadInto g key version found p read = Shows (row_of key).written ((row_of key).IsOfShape g) ((row_of key).counts version found) (if read then Some ((row_of key).said p) else None)

abbrev pub HoldsForEach : (Key → Type 0) → List Key → Type 0
HoldsForEach P [] = Unit {0}
HoldsForEach P (key ∷ more) = P key × HoldsForEach P more

-- at these keys, p and q have the same values
abbrev pub SayTheSame : List Key → RecordParts → RecordParts → Type 0
SayTheSame ks p q = HoldsForEach (λ key. (row_of key).said p ≡ (row_of key).said q) ks

-- the keys of a list that come before this key
abbrev pub keys_before : Key → List Key → List Key
keys_before key [] = []
keys_before key (k ∷ ks) = if bytes_eq (key_text k) (key_text key) then [] else k ∷ keys_before key ks

-- at the key, the tree has the value of these parts, and this value has the key's shape
abbrev pub IsReadAt : {S M : Type 0} → Rules S M → Data → RecordParts → Key → Type 0
IsReadAt g tree p key = (found_at tree key ≡ Some (key_tree key p)) × IsShapedAt g key p
