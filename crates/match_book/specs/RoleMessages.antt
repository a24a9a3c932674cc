-- The messages to a role, from START to the end of its match.
use Rattle.std.specs.Prelude.{ℕ, zero, suc, Bool, if◌then◌else◌, List, [], ◌∷◌, ◌++◌, length, take}
use Rattle.game_core.specs.Play.{Rules}
use Rattle.match_book.specs.Roles.{is_there}
use Rattle.match_book.specs.MatchValue.{MatchValue}
use Rattle.match_book.specs.Phase.{stage}
use Rattle.match_book.specs.Retirement.{retired_by}
use Rattle.match_book.specs.Due.{last_move_texts, owed_in}
use Rattle.match_book.specs.declared.turn.Turn.{Turn}
use Rattle.match_book.specs.declared.phase.Stage.{Stage}
use Rattle.match_book.specs.declared.phase.Stage.TheVariants.{Starting, Playing, Stopping, Aborting}
use Rattle.desk_calls.specs.declared.due.Owed.{Owed}
use Rattle.desk_calls.specs.declared.due.Owed.TheVariants.{Start, Play}

-- the PLAY after these turns, with the last joint move; no message if these turns retire the role
abbrev pub play_after : {S M : Type 0} → Rules S M → ℕ → ℕ → List (Turn M) → List Owed
play_after g strikes role turns = if retired_by strikes turns role then [] else Play (last_move_texts g turns) ∷ []

-- the PLAY before each of the first n turns
abbrev pub plays_before : {S M : Type 0} → Rules S M → ℕ → ℕ → List (Turn M) → ℕ → List Owed
plays_before g strikes role turns zero = []
plays_before g strikes role turns (suc n) = plays_before g strikes role turns n ++ play_after g strikes role (take n turns)

-- the PLAY before each turn of the match
abbrev pub role_plays : {S M : Type 0} → Rules S M → MatchValue M → ℕ → List Owed
role_plays g m role = plays_before g m.setup.strikes role m.turns (length m.turns)

-- The messages to a role in a match that is over without a requested abort: START, PLAY before each turn, and STOP or ABORT.
abbrev pub role_messages : {S M : Type 0} → Rules S M → MatchValue M → ℕ → List Owed
role_messages g m role = Start ∷ (role_plays g m role ++ owed_in (stage g m) (last_move_texts g m.turns) ∷ [])

-- the match has the role's answer for the present round; a retired role gives none in play
abbrev pub is_answer_there : {M : Type 0} → Stage → MatchValue M → ℕ → Bool
is_answer_there Starting m role = is_there m.start_marks role
is_answer_there Playing m role = is_there m.open_answers role
is_answer_there Stopping m role = is_there m.end_marks role
is_answer_there (Aborting c) m role = is_there m.end_marks role

abbrev pub earlier_messages : Stage → List Owed → List Owed
earlier_messages Starting plays = []
earlier_messages Playing plays = Start ∷ plays
earlier_messages Stopping plays = Start ∷ plays
earlier_messages (Aborting c) plays = Start ∷ plays

-- the messages that the role has answered, if the match is at this stage
abbrev pub messages_in : {S M : Type 0} → Stage → Rules S M → MatchValue M → ℕ → List Owed
messages_in at g m role = earlier_messages at (role_plays g m role) ++ (if is_answer_there at m role then owed_in at (last_move_texts g m.turns) ∷ [] else [])

-- the messages that the role has answered so far, if no abort was requested
abbrev pub answered_messages : {S M : Type 0} → Rules S M → MatchValue M → ℕ → List Owed
answered_messages g m role = messages_in (stage g m) g m role
