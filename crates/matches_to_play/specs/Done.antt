-- The matches that are over according to their records.
use Rattle.std.specs.Prelude.{◌≡◌, ◌↔◌, ℕ, Bool, true, List, [], ◌∷◌, ◌++◌, Contains, IsTrue, Option, Some}
use Rattle.std.specs.Str.{bytes_eq}
use Rattle.indexmap.specs.IndexSet.{contains_by}
use Rattle.serde_json.specs.Data.{Data}
use Rattle.game_core.specs.Bytes.{space}
use Rattle.game_core.specs.Play.{Rules}
use Rattle.desk_calls.specs.Phases.{is_last}
use Rattle.match_book.specs.MatchValue.{MatchValue}
use Rattle.match_book.specs.Phase.{phase}
use Rattle.record_reading.specs.LawfulRecord.{IsRecordOf}
use Rattle.matches_to_play.specs.declared.done.DoneMatches.{DoneMatches}

-- these names as one text, with a space after each name
abbrev pub joined : List (List ℕ) → List ℕ
joined [] = []
joined (name ∷ names) = name ++ space ∷ joined names

-- the names of a match: its id, and its players in the order of the roles
abbrev pub match_names : List ℕ → List (List ℕ) → List ℕ
match_names id players = joined (id ∷ players)

-- a match with these names was added
abbrev pub is_noted : DoneMatches → List ℕ → Bool
is_noted done names = contains_by (λ noted. bytes_eq names noted.items) done.names

-- the line is the record of a lawful match that is over, and the match has these names
abbrev pub IsDone : {S M : Type 0} → Rules S M → List ℕ → List ℕ → Type 0
IsDone {S} {M} g line names = (tree : Data) × (m : MatchValue M) × IsRecordOf g line tree m × (is_last (phase g m) ≡ true) × (names ≡ match_names m.setup.id m.setup.players)

-- the names in the line, if the line is the record of a lawful match that is over, and otherwise None
abbrev pub AreNamesOf : {S M : Type 0} → Rules S M → List ℕ → Option (List ℕ) → Type 0
AreNamesOf g line found = (names : List ℕ) → (found ≡ Some names) ↔ IsDone g line names

-- one of these lines is the record of a lawful match that is over, and the match has these names
abbrev pub IsDoneIn : {S M : Type 0} → Rules S M → List (List ℕ) → List ℕ → Type 0
IsDoneIn g lines names = (line : List ℕ) × Contains lines line × IsDone g line names

-- the matches that were added are exactly the matches that are over according to their records in these lines
abbrev pub AreDone : {S M : Type 0} → Rules S M → List (List ℕ) → DoneMatches → Type 0
AreDone g lines done = (names : List ℕ) → IsTrue (is_noted done names) ↔ IsDoneIn g lines names
