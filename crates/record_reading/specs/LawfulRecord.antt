-- Lawful records of a game, and texts that do not have the shape of a record.
use Rattle.std.specs.Prelude.{◌≡◌, ◌≢◌, ℕ, suc, List, ◌∷◌, ◌++◌, length, Some, IsUtf8, All, ◌⊎◌}
use Rattle.serde_json.specs.Data.{Data}
use Rattle.serde_json.specs.Read.{read}
use Rattle.game_core.specs.Play.{Rules}
use Rattle.match_book.specs.Lawful.{IsLawfulMatch}
use Rattle.match_book.specs.MatchValue.{MatchValue}
use Rattle.desk_calls.specs.Names.{IsLawfulSetup}
use Rattle.record_reading.specs.RecordParts.{parts_of, parts_in}
use Rattle.record_reading.specs.RecordTree.{record_tree, row_of, keys, found_at, Holds, IsShapedAt, HasShape}
use Rattle.record_reading.specs.declared.record_parts.Key.{Key}
use Rattle.record_reading.specs.declared.record_parts.Key.TheVariants.{Errors, States}
use Rattle.record_reading.specs.declared.record_parts.RecordParts.{RecordParts}
use Rattle.record_reading.specs.declared.record_parts.Version.{Version}
use Rattle.record_reading.specs.declared.verify_fault.VerifyFault.{VerifyFault}
use Rattle.record_reading.specs.declared.verify_fault.VerifyFault.TheVariants.{NotJson, BadShape, Illegal, NotFirst, WrongRetired, WrongState, WrongGoals, WrongEnd, Memory}

-- the bytes are the JSON text of this tree
pub record IsJson (text : List ℕ) (tree : Data) : Type 0 where
  pub utf8 : IsUtf8 text
  pub is_read : read text ≡ Some tree

-- The text is JSON, and its values at the keys of a record are those of some lawful match's record, in one of the versions. In the
-- first version the strikes are 0. Other keys are allowed.
pub record IsRecordOf {S M : Type 0} (g : Rules S M) (text : List ℕ) (tree : Data) (m : MatchValue M) : Type 0 where
  pub json : IsJson text tree
  pub setup : IsLawfulSetup m.setup
  pub lawful : IsLawfulMatch g m
  pub version : Version
  pub holds : Holds tree (parts_in g version m)

abbrev pub IsLawfulRecord : {S M : Type 0} → Rules S M → List ℕ → Type 0
IsLawfulRecord {S} {M} g text = (tree : Data) × (m : MatchValue M) × IsRecordOf g text tree m

-- these are the parts of some lawful match's record in the same version
abbrev pub AreLawfulParts : {S M : Type 0} → Rules S M → RecordParts → Type 0
AreLawfulParts {S} {M} g p = (m : MatchValue M) × IsLawfulMatch g m × (parts_in g p.version m ≡ p)

-- the value at the key has the key's shape
abbrev pub IsShaped : {S M : Type 0} → Rules S M → Data → Key → Type 0
IsShaped g tree key = (x : (row_of key).Value) × (found_at tree key ≡ Some ((row_of key).written x)) × (row_of key).IsOfShape g x

-- x is the first member of the list that fails
abbrev pub IsFirstWithout : {A : Type 0} → (A → Type 0) → List A → A → Type 0
IsFirstWithout {A} Passes xs x = (before after : List A) × (xs ≡ before ++ x ∷ after) × All Passes before × ¬ Passes x

-- the list at this key has a length that does not fit the moves: errors are tested first, then states
abbrev pub HasWrongLength : RecordParts → Key → Type 0
HasWrongLength p key = ((key ≡ Errors) × (length p.errors ≢ length p.moves)) ⊎ ((key ≡ States) × (length p.errors ≡ length p.moves) × (length p.states ≢ suc (length p.moves)))

-- the first key with a value of the wrong shape; or, if all values have the right shape, a key with a list of the wrong length
abbrev pub IsMisshapen : {S M : Type 0} → Rules S M → Data → Key → Type 0
IsMisshapen g tree key = IsFirstWithout (IsShaped g tree) keys key ⊎ ((p : RecordParts) × Holds tree p × ((at : Key) → IsShapedAt g at p) × HasWrongLength p key)

-- why a text is refused before its turns are replayed
abbrev pub HasNoShape : {S M : Type 0} → Rules S M → List ℕ → VerifyFault → Type 0
HasNoShape g text NotJson = (tree : Data) → ¬ IsJson text tree
HasNoShape g text (BadShape key) = (tree : Data) × IsJson text tree × IsMisshapen g tree key
HasNoShape g text (Illegal turn role) = ⊥
HasNoShape g text (NotFirst turn role) = ⊥
HasNoShape g text (WrongRetired turn role) = ⊥
HasNoShape g text (WrongState turn) = ⊥
HasNoShape g text WrongGoals = ⊥
HasNoShape g text WrongEnd = ⊥
HasNoShape g text Memory = Unit {0}

abbrev pub RecordTreeHoldsParts : {S M : Type 0} → Rules S M → Type 0
RecordTreeHoldsParts {S} {M} g = (m : MatchValue M) → Holds (record_tree g m) (parts_of g m)

abbrev pub RecordsAreLawful : {S M : Type 0} → Rules S M → Type 0
RecordsAreLawful {S} {M} g = (text : List ℕ) (m : MatchValue M) → IsLawfulMatch g m → IsLawfulSetup m.setup → IsJson text (record_tree g m) → IsLawfulRecord g text

abbrev pub HoldsOnePartsAtMost : {S M : Type 0} → Rules S M → Type 0
HoldsOnePartsAtMost g = (tree : Data) (p q : RecordParts) → HasShape g p → HasShape g q → Holds tree p → Holds tree q → p ≡ q

abbrev pub LawfulPartsHaveShape : {S M : Type 0} → Rules S M → Type 0
LawfulPartsHaveShape {S} {M} g = (m : MatchValue M) (version : Version) → IsLawfulMatch g m → IsLawfulSetup m.setup → HasShape g (parts_in g version m)

abbrev pub RefusedIsUnlawful : {S M : Type 0} → Rules S M → Type 0
RefusedIsUnlawful g = (text : List ℕ) (fault : VerifyFault) → fault ≢ Memory → HasNoShape g text fault → ¬ IsLawfulRecord g text
