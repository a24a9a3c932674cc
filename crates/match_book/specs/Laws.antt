-- Laws about lawful matches and the answers in them, for a lawful game.
use Rattle.std.specs.Prelude.{◌≡◌, ◌≢◌, ◌↔◌, ◌⊎◌, ℕ, ◌+◌, ◌<◌, ◌≤◌, true, false, List, [], ◌∷◌, ◌++◌, length, Some, None, All, replicate, slice_get, slice_index_or, slice_set}
use Rattle.game_core.specs.Canonical.{IsFoldedText}
use Rattle.game_core.specs.Play.{Rules, AreLegal}
use Rattle.match_book.specs.Roles.{every_role, is_there, blank}
use Rattle.match_book.specs.AnswerReading.{answer_reading, max_reading}
use Rattle.match_book.specs.Judgement.{judgement}
use Rattle.match_book.specs.MatchValue.{MatchValue, state_after, joint_moves, is_error}
use Rattle.match_book.specs.Retirement.{are_all_retired}
use Rattle.match_book.specs.RoleStrikes.{AreStrikes, after_turn, unstruck}
use Rattle.match_book.specs.Phase.{stage, round, has_answered, has_no_goal, has_no_move, is_over, is_playing, max_turns}
use Rattle.match_book.specs.Lawful.{IsLawfulTurn, AreLawful, IsLawfulMatch}
use Rattle.match_book.specs.Steps.{new_match, refusal, turn_of, part, parts, after_answer, after_abort}
use Rattle.match_book.specs.Due.{due}
use Rattle.match_book.specs.RoleMessages.{role_messages, answered_messages}
use Rattle.match_book.specs.Rounds.{AreRounds}
use Rattle.desk_calls.specs.declared.setup.Setup.{Setup}
use Rattle.desk_calls.specs.declared.answer.Answer.{Answer}
use Rattle.desk_calls.specs.declared.answer.Answer.TheVariants.{Text, Silent, Broken}
use Rattle.desk_calls.specs.declared.due.Owed.{Owed}
use Rattle.desk_calls.specs.declared.due.Due.TheVariants.{Owe}
use Rattle.match_book.specs.declared.judgement.Judgement.{Judgement}
use Rattle.match_book.specs.declared.retirement.RoleStrikes.{RoleStrikes}
use Rattle.match_book.specs.declared.turn.Turn.{Turn}
use Rattle.match_book.specs.declared.phase.Stage.TheVariants.{Starting, Playing, Stopping}

abbrev pub NewMatchIsLawful : {S M : Type 0} → Rules S M → Type 0
NewMatchIsLawful {S} {M} g = (setup : Setup) → length setup.players ≡ g.roles → IsLawfulMatch g (new_match {M = M} g setup)

abbrev pub AnswersKeepLawful : {S M : Type 0} → Rules S M → Type 0
AnswersKeepLawful {S} {M} g = (m : MatchValue M) (role round : ℕ) (answer : Answer) → IsLawfulMatch g m → IsLawfulMatch g (after_answer g m role round answer)

abbrev pub AbortKeepsLawful : {S M : Type 0} → Rules S M → Type 0
AbortKeepsLawful {S} {M} g = (m : MatchValue M) → IsLawfulMatch g m → IsLawfulMatch g (after_abort g m)

abbrev pub RecordedMovesAreLegal : {S M : Type 0} → Rules S M → Type 0
RecordedMovesAreLegal {S} {M} g = (m : MatchValue M) → IsLawfulMatch g m → AreLegal g (joint_moves m.turns)

-- the reading of the answer is the text of this move
abbrev pub Names : {S M : Type 0} → Rules S M → Answer → M → Type 0
Names g (Text t) m = answer_reading t ≡ Some (g.move_text m)
Names g Silent m = ⊥
Names g Broken m = ⊥

abbrev pub NoErrorMeansNamed : {S M : Type 0} → Rules S M → Type 0
NoErrorMeansNamed {S} {M} g = (s : S) (role : ℕ) (answer : Answer) (j : Judgement M) → judgement g s role answer ≡ Some j → (j.error ≡ []) ↔ Names g answer j.taken

-- The open answers make a turn. The role's part of this turn is a judgement; its move and its error are at the role's index.
pub record HasPart {S M : Type 0} (g : Rules S M) (m : MatchValue M) (r : ℕ) : Type 0 where
  pub judged : Judgement M
  pub is_part : part g m r ≡ Some judged
  pub move : slice_get (turn_of (parts g m)).moves r ≡ Some judged.taken
  pub error : slice_get (turn_of (parts g m)).errors r ≡ Some judged.error

-- The match judges each answer that it takes in play. The judgement stays open, or the match records it with the others.
pub record IsPlayed {S M : Type 0} (g : Rules S M) (m n : MatchValue M) (role : ℕ) (answer : Answer) : Type 0 where
  pub judged : Judgement M
  pub is_judgement : judgement g (state_after g m.turns) role answer ≡ Some judged
  pub opened_or_recorded : (n ≡ record m { open_answers = slice_set m.open_answers role (Some judged) })
      ⊎ ((n ≡ record m { turns = m.turns ++ turn_of (parts g (record m { open_answers = slice_set m.open_answers role (Some judged) })) ∷ []; open_answers = blank g.roles })
      × ((r : ℕ) → r < g.roles → HasPart g (record m { open_answers = slice_set m.open_answers role (Some judged) }) r))

abbrev pub AnswersInPlay : {S M : Type 0} → Rules S M → Type 0
AnswersInPlay {S} {M} g = (m : MatchValue M) (role round : ℕ) (answer : Answer) → IsLawfulMatch g m → stage g m ≡ Playing → refusal g m role round ≡ None → IsPlayed g m (after_answer g m role round answer) role answer

abbrev pub AnswersOutOfPlay : {S M : Type 0} → Rules S M → Type 0
AnswersOutOfPlay {S} {M} g = (m : MatchValue M) (role round : ℕ) (answer : Answer) → stage g m ≢ Playing
    → ((after_answer g m role round answer).turns ≡ m.turns) × ((after_answer g m role round answer).open_answers ≡ m.open_answers)

-- a match takes an answer only for the present round and from a role of the game
abbrev pub TakenForTheRound : {S M : Type 0} → Rules S M → Type 0
TakenForTheRound {S} {M} g = (m : MatchValue M) (role n : ℕ) → refusal g m role n ≡ None → (role < g.roles) × (n ≡ round g m)

-- a match does not refuse an answer that a role owes
abbrev pub OwedAnswersAreTaken : {S M : Type 0} → Rules S M → Type 0
OwedAnswersAreTaken {S} {M} g = (m : MatchValue M) (role n : ℕ) (owed : Owed) → role < g.roles → due g m role ≡ Owe n owed → refusal g m role n ≡ None

-- no role has answered a message of a new match
abbrev pub NoneIsAnswered : {S M : Type 0} → Rules S M → Type 0
NoneIsAnswered {S} {M} g = (setup : Setup) (role : ℕ) → role < g.roles → answered_messages g (new_match {M = M} g setup) role ≡ []

-- when a role answers a message that the match owes to it, the role's answered messages gain exactly this message
abbrev pub OwedIsAnswered : {S M : Type 0} → Rules S M → Type 0
OwedIsAnswered {S} {M} g = (m : MatchValue M) (role n : ℕ) (owed : Owed) (answer : Answer) → IsLawfulMatch g m → role < g.roles → due g m role ≡ Owe n owed
    → answered_messages g (after_answer g m role n answer) role ≡ answered_messages g m role ++ owed ∷ []

-- answers of other roles change neither the messages that a role has answered nor a message that the match owes to the role
pub record IsUntouched {S M : Type 0} (g : Rules S M) (m after : MatchValue M) (role : ℕ) : Type 0 where
  pub answered : answered_messages g after role ≡ answered_messages g m role
  pub owed : (n : ℕ) (owed : Owed) → due g m role ≡ Owe n owed → due g after role ≡ Owe n owed

abbrev pub OthersAreUntouched : {S M : Type 0} → Rules S M → Type 0
OthersAreUntouched {S} {M} g = (m : MatchValue M) (role other n : ℕ) (answer : Answer) → IsLawfulMatch g m → role < g.roles → role ≢ other → IsUntouched g m (after_answer g m other n answer) role

-- once a match is over, each role has answered all its messages, and no answer changes the match
pub record IsAllAnswered {S M : Type 0} (g : Rules S M) (m : MatchValue M) : Type 0 where
  pub answered : (role : ℕ) → role < g.roles → answered_messages g m role ≡ role_messages g m role
  pub stays : (role n : ℕ) (answer : Answer) → after_answer g m role n answer ≡ m

abbrev pub AllAreAnswered : {S M : Type 0} → Rules S M → Type 0
AllAreAnswered {S} {M} g = (m : MatchValue M) → is_over g m ≡ true → IsAllAnswered g m

abbrev pub TurnsLeadToStates : {S M : Type 0} → Rules S M → Type 0
TurnsLeadToStates {S} {M} g = (strikes : ℕ) (turns : List (Turn M)) → AreLawful g strikes turns → g.IsState (state_after g turns)

abbrev pub TurnsHaveMoves : {S M : Type 0} → Rules S M → Type 0
TurnsHaveMoves {S} {M} g = (strikes : ℕ) (turns : List (Turn M)) → AreLawful g strikes turns → All (λ t. All (λ m. g.IsMove m) t.moves) turns

abbrev pub OneMoreTurn : {S M : Type 0} → Rules S M → Type 0
OneMoreTurn {S} {M} g = (strikes : ℕ) (turns : List (Turn M)) (t : Turn M) → AreLawful g strikes turns → IsLawfulTurn g strikes turns t
    → AreLawful g strikes (turns ++ t ∷ []) × (state_after g (turns ++ t ∷ []) ≡ g.next (state_after g turns) t.moves)

-- before the first turn no role has a strike
abbrev pub StrikesBegin : Type 0 → Type 0
StrikesBegin M = (roles strikes : ℕ) → AreStrikes {M = M} roles strikes [] (replicate roles unstruck)

-- each role's strikes after one more turn follow from those before it and from the errors of the turn
abbrev pub StrikesOfOneMore : Type 0 → Type 0
StrikesOfOneMore M = (roles strikes : ℕ) (turns : List (Turn M)) (t : Turn M) (kept after : List RoleStrikes) → AreStrikes roles strikes turns kept → length after ≡ length kept
    → ((r : ℕ) (d : RoleStrikes) → r < length kept → slice_index_or after r d ≡ after_turn strikes (slice_index_or kept r unstruck) (is_error (slice_index_or t.errors r [])))
    → AreStrikes roles strikes (turns ++ t ∷ []) after

-- if there are at most max_turns turns, no role has more than max_turns strikes in a row
abbrev pub FewStrikes : Type 0 → Type 0
FewStrikes M = (roles strikes : ℕ) (turns : List (Turn M)) (kept : List RoleStrikes) → AreStrikes roles strikes turns kept → length turns ≤ max_turns → All (λ s. s.in_a_row ≤ max_turns) kept

-- a match is starting if and only if no abort was requested and some START mark is missing
abbrev pub StartingMeans : {S M : Type 0} → Rules S M → Type 0
StartingMeans {S} {M} g = (m : MatchValue M) → (stage g m ≡ Starting) ↔ ((m.abort_asked ≡ false) × (every_role g.roles (is_there m.start_marks) ≡ false))

-- No abort was requested, all START marks are present, the state is not terminal, there are fewer turns than the limit, each role has a legal
-- move, and some role is not retired.
pub record IsInPlay {S M : Type 0} (g : Rules S M) (m : MatchValue M) : Type 0 where
  pub not_asked : m.abort_asked ≡ false
  pub started : every_role g.roles (is_there m.start_marks) ≡ true
  pub goes_on : g.terminal (state_after g m.turns) ≡ false
  pub few : length m.turns < max_turns
  pub moves : (r : ℕ) → r < g.roles → has_no_move g (state_after g m.turns) r ≡ false
  pub some_answer : are_all_retired g.roles m ≡ false

abbrev pub PlayingMeans : {S M : Type 0} → Rules S M → Type 0
PlayingMeans {S} {M} g = (m : MatchValue M) → (stage g m ≡ Playing) ↔ IsInPlay g m

-- No abort was requested, all START marks are present, the state is terminal, and each role has a goal.
pub record HasStopped {S M : Type 0} (g : Rules S M) (m : MatchValue M) : Type 0 where
  pub not_asked : m.abort_asked ≡ false
  pub started : every_role g.roles (is_there m.start_marks) ≡ true
  pub ended : g.terminal (state_after g m.turns) ≡ true
  pub goals : (r : ℕ) → r < g.roles → has_no_goal g (state_after g m.turns) r ≡ false

abbrev pub StoppingMeans : {S M : Type 0} → Rules S M → Type 0
StoppingMeans {S} {M} g = (m : MatchValue M) → (stage g m ≡ Stopping) ↔ HasStopped g m

abbrev pub BegunRoundsAreOpen : {S M : Type 0} → Rules S M → Type 0
BegunRoundsAreOpen {S} {M} g = (m : MatchValue M) → is_playing (stage g m) ≡ true → m.open_answers ≡ blank g.roles → every_role g.roles (has_answered g m) ≡ false

-- A lawful match is over once every role has answered in as many rounds as there can be turns, and in two more: for START, and for
-- STOP or ABORT. Refused answers count too.
abbrev pub RoundsEnd : {S M : Type 0} → Rules S M → Type 0
RoundsEnd {S} {M} g = (m after : MatchValue M) (rounds : ℕ) → IsLawfulMatch g m → AreRounds g m rounds after → max_turns + 2 ≤ rounds → is_over g after ≡ true

abbrev pub ReadingsAreFolded : Type 0
ReadingsAreFolded = (text x : List ℕ) → answer_reading text ≡ Some x → IsFoldedText x × (length x ≤ max_reading)
