-- The values of a match's record, and the shape that they must have.
use Rattle.std.specs.Prelude.{◌≡◌, ℕ, zero, suc, ◌<◌, ◌≤◌, List, [], ◌∷◌, ◌++◌, length, map, Option, option_to_list, All, ◌⊎◌, true}
use Rattle.std.specs.List.{list_all}
use Rattle.game_core.specs.Canonical.{IsFoldedText}
use Rattle.game_core.specs.Play.{Rules, max_goal}
use Rattle.match_book.specs.AnswerReading.{max_reading}
use Rattle.match_book.specs.Judgement.{error_text}
use Rattle.desk_calls.specs.Names.{is_name}
use Rattle.match_book.specs.MatchValue.{MatchValue, state_after}
use Rattle.match_book.specs.Phase.{phase, cause, goal_of, max_turns}
use Rattle.match_book.specs.declared.judgement.Substitution.{Substitution}
use Rattle.match_book.specs.declared.judgement.Substitution.TheVariants.{TimeOut, ConnectionError, Unreadable, Illegal, Retired}
use Rattle.match_book.specs.declared.phase.Cause.{Cause}
use Rattle.match_book.specs.declared.phase.Cause.TheVariants.{Asked, NoLegal, NoGoal, TooLong, AllRetired}
use Rattle.record_reading.specs.declared.record_parts.RecordParts.{RecordParts}
use Rattle.record_reading.specs.declared.record_parts.Version.{Version}
use Rattle.record_reading.specs.declared.record_parts.Version.TheVariants.{Second}

-- the values of f for n roles, in order
abbrev pub each_role : {A : Type 0} → ℕ → (ℕ → A) → List A
each_role zero f = []
each_role (suc n) f = each_role n f ++ f n ∷ []

-- the prefixes of a list: no members, the first one, and so on up to all
abbrev pub prefixes : {A : Type 0} → List A → List (List A)
prefixes [] = [] ∷ []
prefixes (x ∷ xs) = [] ∷ map (λ front. x ∷ front) (prefixes xs)

-- the goals of the roles: each role has one if the match has stopped, and otherwise no role has one
abbrev pub goals_from : ℕ → (ℕ → Option ℕ) → List ℕ
goals_from zero goal = []
goals_from (suc n) goal = goals_from n goal ++ option_to_list (goal n)

-- The values of a match's record in the newest version. The states are the one before the first turn and the one after each turn.
abbrev pub parts_of : {S M : Type 0} → Rules S M → MatchValue M → RecordParts
parts_of g m = record {
  cause = cause g m;
  end_marks = m.end_marks;
  errors = map (λ t. t.errors) m.turns;
  goals = goals_from g.roles (goal_of g m);
  id = m.setup.id;
  moves = map (λ t. map g.move_text t.moves) m.turns;
  phase = phase g m;
  play = m.setup.play;
  players = m.setup.players;
  roles = each_role g.roles g.role_name;
  start = m.setup.start;
  start_marks = m.start_marks;
  states = map (λ front. g.state_text (state_after g front)) (prefixes m.turns);
  strikes = m.setup.strikes;
  version = Second;
}

abbrev pub parts_in : {S M : Type 0} → Rules S M → Version → MatchValue M → RecordParts
parts_in g version m = record (parts_of g m) { version = version }

-- the cause names no role, or a role of the game
abbrev pub NamesRole : ℕ → Cause → Type 0
NamesRole roles Asked = Unit {0}
NamesRole roles (NoLegal r) = r < roles
NamesRole roles (NoGoal r) = r < roles
NamesRole roles TooLong = Unit {0}
NamesRole roles AllRetired = Unit {0}

-- a reason that a record may give for a replaced move, for some legal moves and some retired roles
abbrev pub MayBeGiven : Substitution → Type 0
MayBeGiven TimeOut = Unit {0}
MayBeGiven ConnectionError = Unit {0}
MayBeGiven Unreadable = Unit {0}
MayBeGiven (Illegal x) = IsFoldedText x × (length x ≤ max_reading)
MayBeGiven Retired = Unit {0}

-- a text that may be the error of some move
abbrev pub IsErrorText : List ℕ → Type 0
IsErrorText e = (e ≡ []) ⊎ ((why : Substitution) × (e ≡ error_text why) × MayBeGiven why)

-- for each turn, one error for each role
abbrev pub AreErrors : ℕ → List (List (List ℕ)) → Type 0
AreErrors roles turns = All (λ texts. (length texts ≡ roles) × All IsErrorText texts) turns

-- no goals, or one for each role
abbrev pub AreGoals : ℕ → List ℕ → Type 0
AreGoals roles goals = (goals ≡ []) ⊎ ((length goals ≡ roles) × All (λ goal. goal ≤ max_goal) goals)

-- for each turn, one text for each role, and at most as many turns as a match may have
abbrev pub AreMoves : ℕ → List (List (List ℕ)) → Type 0
AreMoves roles turns = All (λ texts. length texts ≡ roles) turns × (length turns ≤ max_turns)

-- a lawful name for each role
abbrev pub ArePlayers : ℕ → List (List ℕ) → Type 0
ArePlayers roles players = (length players ≡ roles) × (list_all is_name players ≡ true)
