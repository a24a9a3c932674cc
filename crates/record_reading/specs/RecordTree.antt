-- The record of a match as a JSON tree: the table of its keys, for both versions.
use Rattle.std.specs.Prelude.{◌≡◌, ◌==◌, ℕ, suc, List, [], ◌∷◌, ◌++◌, length, map, Option, Some, None, option_and_then, option_map, if◌then◌else◌, IfSome, true, codes, ⊤}
use Rattle.std.specs.Option.{option_or}
use Rattle.std.specs.Fmt.{decimal}
use Rattle.serde_json.specs.Data.{Data, Members, null, number, unsigned, string, array, object, member, no_members}
use Rattle.serde_json.specs.Find.{as_number, as_u64, get}
use Rattle.serde_json.specs.View.{items_of}
use Rattle.serde_json.specs.Written.{compact_text}
use Rattle.game_core.specs.Play.{Rules}
use Rattle.match_book.specs.Marks.{mark_text}
use Rattle.match_book.specs.MatchValue.{MatchValue}
use Rattle.desk_calls.specs.Names.{is_name, is_clock, is_strikes}
use Rattle.desk_calls.specs.Phases.{phase_text}
use Rattle.match_book.specs.declared.answer.Mark.{Mark}
use Rattle.match_book.specs.declared.phase.Cause.{Cause}
use Rattle.match_book.specs.declared.phase.Cause.TheVariants.{Asked, NoLegal, NoGoal, TooLong, AllRetired}
use Rattle.desk_calls.specs.declared.phase.Phase.{Phase}
use Rattle.record_reading.specs.RecordParts.{parts_of, each_role, NamesRole, AreErrors, AreGoals, AreMoves, ArePlayers}
use Rattle.record_reading.specs.declared.record_parts.Key.{Key}
use Rattle.record_reading.specs.declared.record_parts.Key.TheVariants.{Cause as AtCause, EndMarks, Errors, GoalValues, MatchId, Moves, Phase as AtPhase, PlayClock, Players, Roles, StartClock, StartMarks, States, Strikes, Version as AtVersion}
use Rattle.record_reading.specs.declared.record_parts.RecordParts.{RecordParts}
use Rattle.record_reading.specs.declared.record_parts.Version.{Version}
use Rattle.record_reading.specs.declared.record_parts.Version.TheVariants.{First, Second}

-- ---- How values are written

abbrev pub list_tree : List Data → Data
list_tree values = array (items_of values)

abbrev pub texts_tree : List (List ℕ) → Data
texts_tree texts = list_tree (map string texts)

abbrev pub text_lists_tree : List (List (List ℕ)) → Data
text_lists_tree lists = list_tree (map texts_tree lists)

abbrev pub whole_tree : ℕ → Data
whole_tree n = number (unsigned n)

abbrev pub goal_values_tree : List ℕ → Data
goal_values_tree goals = list_tree (map whole_tree goals)

abbrev pub text_or_null : Option (List ℕ) → Data
text_or_null None = null
text_or_null (Some text) = string text

abbrev pub phase_tree : Phase → Data
phase_tree at = string (phase_text at)

abbrev pub cause_text : Cause → List ℕ
cause_text Asked = codes "asked"
cause_text (NoLegal role) = codes "nolegal " ++ decimal role
cause_text (NoGoal role) = codes "nogoal " ++ decimal role
cause_text TooLong = codes "toolong"
cause_text AllRetired = codes "allretired"

abbrev pub cause_tree : Option Cause → Data
cause_tree why = text_or_null (option_map cause_text why)

abbrev pub mark_tree : Option Mark → Data
mark_tree mark = text_or_null (option_map mark_text mark)

-- the role's mark, or null if there is none
abbrev pub marks_tree : List (Option Mark) → Data
marks_tree marks = list_tree (map mark_tree marks)

-- ---- Versions

abbrev pub version_number : Version → ℕ
version_number First = 1
version_number Second = 2

abbrev pub version_tree : Version → Data
version_tree version = whole_tree (version_number version)

-- a number that is written as a whole number without a sign
abbrev pub as_whole : Data → Option ℕ
as_whole d = option_and_then as_u64 (as_number d)

abbrev pub version_numbered : ℕ → Option Version
version_numbered n = if n == 1 then Some First else (if n == 2 then Some Second else None)

-- the version of a record, from the value at the key `version`; a record without this key has the first version
abbrev pub version_said : Option Data → Option Version
version_said None = Some First
version_said (Some d) = option_and_then version_numbered (as_whole d)

-- The value that counts at a key, given the version of the record and the value in it. For a key of every version, the value in the record
-- counts.
abbrev pub in_each_version : Option Version → Option Data → Option Data
in_each_version version there = there

-- for a key that was added in the second version: in a record of any other version, this value counts
abbrev pub since_second : Data → Option Version → Option Data → Option Data
since_second before None there = Some before
since_second before (Some First) there = Some before
since_second before (Some Second) there = there

-- for a key that may be missing: if it is missing, this value counts
abbrev pub unless_there : Data → Option Version → Option Data → Option Data
unless_there absent version there = option_or there (Some absent)

-- ---- The table

-- A key's text, the versions in which it counts, its value in a record, the JSON of this value, and the values that have the key's shape
-- in a record of the game.
pub record Row : Type 1 where
  pub Value : Type 0
  pub text : List ℕ
  pub counts : Option Version → Option Data → Option Data
  pub said : RecordParts → Value
  pub written : Value → Data
  pub IsOfShape : {S M : Type 0} → Rules S M → Value → Type 0

abbrev pub row_of : Key → Row
row_of AtCause = record { Value = Option Cause; text = codes "cause"; counts = in_each_version; said = λ p. p.cause; written = cause_tree; IsOfShape = λ g why. IfSome why (NamesRole g.roles) }
row_of EndMarks = record { Value = List (Option Mark); text = codes "endMarks"; counts = in_each_version; said = λ p. p.end_marks; written = marks_tree; IsOfShape = λ g marks. length marks ≡ g.roles }
row_of Errors = record { Value = List (List (List ℕ)); text = codes "errors"; counts = in_each_version; said = λ p. p.errors; written = text_lists_tree; IsOfShape = λ g errors. AreErrors g.roles errors }
row_of GoalValues = record { Value = List ℕ; text = codes "goalValues"; counts = in_each_version; said = λ p. p.goals; written = goal_values_tree; IsOfShape = λ g goals. AreGoals g.roles goals }
row_of MatchId = record { Value = List ℕ; text = codes "matchId"; counts = in_each_version; said = λ p. p.id; written = string; IsOfShape = λ g id. is_name id ≡ true }
row_of Moves = record { Value = List (List (List ℕ)); text = codes "moves"; counts = in_each_version; said = λ p. p.moves; written = text_lists_tree; IsOfShape = λ g moves. AreMoves g.roles moves }
row_of AtPhase = record { Value = Phase; text = codes "phase"; counts = in_each_version; said = λ p. p.phase; written = phase_tree; IsOfShape = λ g at. ⊤ }
row_of PlayClock = record { Value = ℕ; text = codes "playClock"; counts = in_each_version; said = λ p. p.play; written = whole_tree; IsOfShape = λ g seconds. is_clock seconds ≡ true }
row_of Players = record { Value = List (List ℕ); text = codes "players"; counts = in_each_version; said = λ p. p.players; written = texts_tree; IsOfShape = λ g players. ArePlayers g.roles players }
row_of Roles = record { Value = List (List ℕ); text = codes "roles"; counts = in_each_version; said = λ p. p.roles; written = texts_tree; IsOfShape = λ g names. names ≡ each_role g.roles g.role_name }
row_of StartClock = record { Value = ℕ; text = codes "startClock"; counts = in_each_version; said = λ p. p.start; written = whole_tree; IsOfShape = λ g seconds. is_clock seconds ≡ true }
row_of StartMarks = record { Value = List (Option Mark); text = codes "startMarks"; counts = in_each_version; said = λ p. p.start_marks; written = marks_tree; IsOfShape = λ g marks. length marks ≡ g.roles }
row_of States = record { Value = List (List (List ℕ)); text = codes "states"; counts = in_each_version; said = λ p. p.states; written = text_lists_tree; IsOfShape = λ g states. ⊤ }
row_of Strikes = record { Value = ℕ; text = codes "strikes"; counts = since_second (whole_tree 0); said = λ p. p.strikes; written = whole_tree; IsOfShape = λ g strikes. is_strikes strikes ≡ true }
row_of AtVersion = record { Value = Version; text = codes "version"; counts = unless_there (version_tree First); said = λ p. p.version; written = version_tree; IsOfShape = λ g version. ⊤ }

-- the keys, in the byte order of their texts
abbrev pub keys : List Key
keys = AtCause ∷ EndMarks ∷ Errors ∷ GoalValues ∷ MatchId ∷ Moves ∷ AtPhase ∷ PlayClock ∷ Players ∷ Roles ∷ StartClock ∷ StartMarks ∷ States ∷ Strikes ∷ AtVersion ∷ []

abbrev pub key_text : Key → List ℕ
key_text key = (row_of key).text

-- the value at a key, written as JSON
abbrev pub key_tree : Key → RecordParts → Data
key_tree key p = (row_of key).written ((row_of key).said p)

abbrev pub IsShapedAt : {S M : Type 0} → Rules S M → Key → RecordParts → Type 0
IsShapedAt g key p = (row_of key).IsOfShape g ((row_of key).said p)

-- the version of the record with this tree
abbrev pub version_of : Data → Option Version
version_of tree = version_said (get (key_text AtVersion) tree)

-- the value that counts at the key
abbrev pub found_at : Data → Key → Option Data
found_at tree key = (row_of key).counts (version_of tree) (get (key_text key) tree)

-- the tree has the values of these parts at all keys of a record
abbrev pub Holds : Data → RecordParts → Type 0
Holds tree p = (key : Key) → found_at tree key ≡ Some (key_tree key p)

-- these parts have the shape of a record of the game, with an error for each move and one state more than turns
pub record HasShape {S M : Type 0} (g : Rules S M) (p : RecordParts) : Type 0 where
  pub keys : (key : Key) → IsShapedAt g key p
  pub as_many_errors : length p.errors ≡ length p.moves
  pub one_state_more : length p.states ≡ suc (length p.moves)

-- ---- The record

abbrev pub members_at : List Key → RecordParts → Members
members_at [] p = no_members
members_at (key ∷ more) p = member (key_text key) (key_tree key p) (members_at more p)

unfoldable pub record_tree : {S M : Type 0} → Rules S M → MatchValue M → Data
record_tree g m = object (members_at keys (parts_of g m))

-- the record of a match: the tree as compact JSON text
abbrev pub record_text : {S M : Type 0} → Rules S M → MatchValue M → List ℕ
record_text g m = compact_text (record_tree g m)
