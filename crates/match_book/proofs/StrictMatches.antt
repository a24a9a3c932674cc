-- Worked matches of Countdown with strikes. The rest of their setup does not matter.
use Rattle.std.specs.Prelude.{◌≡◌, ℕ, List, [], ◌∷◌, Some, None, codes, refl, map}
use Rattle.game_core.specs.Play.{Rules}
use Rattle.game_core.specs.Countdown.{countdown}
use Rattle.game_core.specs.declared.countdown.Take.{Take}
use Rattle.match_book.specs.MatchValue.{MatchValue}
use Rattle.match_book.specs.Phase.{stage, settled, round, status, cause}
use Rattle.kif_text.specs.Machine.{run}
use Rattle.kif_text.specs.Reading.{reading}
use Rattle.match_book.specs.AnswerReading.{answer_reading}
use Rattle.match_book.specs.Judgement.{judgement}
use Rattle.match_book.specs.Retirement.{retired_by}
use Rattle.match_book.specs.Due.{due}
use Rattle.match_book.specs.RoleMessages.{role_messages, answered_messages}
use Rattle.match_book.specs.Steps.{new_match, after_answer, refusal}
use Rattle.desk_calls.specs.declared.setup.Setup.{Setup}
use Rattle.desk_calls.specs.declared.answer.Answer.{Answer}
use Rattle.desk_calls.specs.declared.answer.Answer.TheVariants.{Text, Silent, Broken}
use Rattle.match_book.specs.declared.answer.AnswerRefusal.TheVariants.{Twice}
use Rattle.match_book.specs.declared.phase.Cause.TheVariants.{AllRetired}
use Rattle.desk_calls.specs.declared.phase.Phase.TheVariants.{Playing, Aborting}
use Rattle.desk_calls.specs.declared.due.Owed.TheVariants.{Start, Play, Stop, Abort}
use Rattle.desk_calls.specs.declared.due.Due.TheVariants.{Owe, Hold}

-- the match after these answers, each with its role; each answer is for the round that is open at that time
abbrev pub after_answers : {S M : Type 0} → Rules S M → MatchValue M → List (ℕ × Answer) → MatchValue M
after_answers g m [] = m
after_answers g m (a ∷ later) = after_answers g (after_answer g m a.0 (round g m) a.1) later

abbrev pub late : Answer
late = Silent

abbrev pub lost : Answer
lost = Broken

abbrev pub says : List ℕ → Answer
says text = Text text

-- Countdown from n with this number of strikes, once both roles have answered START
abbrev pub ready : ℕ → ℕ → Setup → MatchValue Take
ready n strikes setup = after_answers (countdown n) (new_match (countdown n) (record setup { strikes = strikes })) ((0, says (codes "READY")) ∷ ((1, says (codes "READY")) ∷ []))

-- two strikes: red is late, and then names an illegal move
abbrev pub red_is_out : Setup → MatchValue Take
red_is_out setup = after_answers (countdown 10) (ready 10 2 setup) ((0, late) ∷ ((1, says (codes "noop")) ∷ ((0, says (codes "(take 1)")) ∷ ((1, says (codes "(take 1)")) ∷ []))))

-- the answer of blue completes the turn
abbrev pub blue_goes_on : Setup → MatchValue Take
blue_goes_on setup = after_answers (countdown 10) (red_is_out setup) ((1, says (codes "noop")) ∷ [])

-- then blue is late, and its connection fails
abbrev pub both_are_out : Setup → MatchValue Take
both_are_out setup = after_answers (countdown 10) (blue_goes_on setup) ((1, late) ∷ ((1, lost) ∷ []))

-- one strike, in a game of one turn: both roles are retired when it ends
abbrev pub out_at_the_end : Setup → MatchValue Take
out_at_the_end setup = after_answers (countdown 1) (ready 1 1 setup) ((0, late) ∷ ((1, late) ∷ []))

-- two strikes: red is late twice, but not in a row
abbrev pub not_in_a_row : Setup → MatchValue Take
not_in_a_row setup = after_answers (countdown 10) (ready 10 2 setup)
    ((0, late) ∷ ((1, says (codes "noop")) ∷ ((0, says (codes "noop")) ∷ ((1, says (codes "(take 1)")) ∷ ((0, late) ∷ ((1, says (codes "noop")) ∷ []))))))

-- no strikes: red is late three times in a row
abbrev pub never_out : Setup → MatchValue Take
never_out setup = after_answers (countdown 10) (ready 10 0 setup)
    ((0, late) ∷ ((1, says (codes "noop")) ∷ ((0, late) ∷ ((1, says (codes "(take 1)")) ∷ ((0, late) ∷ ((1, says (codes "noop")) ∷ []))))))

-- a retired role waits for the others, and the match refuses its answer
pub red_waits : (setup : Setup) → (due (countdown 10) (red_is_out setup) 0 ≡ Hold 3) × (refusal (countdown 10) (red_is_out setup) 0 3 ≡ Some Twice)
unfolding stage settled judgement retired_by answer_reading reading run
red_waits setup = (refl, refl)

pub blue_plays_alone : (setup : Setup) → (due (countdown 10) (blue_goes_on setup) 1 ≡ Owe 4 (Play (Some (codes "(take 1)" ∷ (codes "noop" ∷ []))))) × (status (countdown 10) (blue_goes_on setup) ≡ record { phase = Playing; round = 4; turns = 3; substitutions = 3 })
unfolding stage settled judgement retired_by answer_reading reading run
blue_plays_alone setup = (refl, refl)

-- once all roles are retired, the match is aborted, and owes ABORT to the retired roles too
pub match_is_aborted : (setup : Setup) → (due (countdown 10) (both_are_out setup) 0 ≡ Owe 6 Abort) × (status (countdown 10) (both_are_out setup) ≡ record { phase = Aborting; round = 6; turns = 5; substitutions = 7 }) × (cause (countdown 10) (both_are_out setup) ≡ Some AllRetired)
unfolding stage settled judgement retired_by answer_reading reading run
match_is_aborted setup = (refl, refl, refl)

pub errors_say_why : (setup : Setup) → map (λ t. t.errors) (both_are_out setup).turns ≡ (codes "TO" ∷ ([] ∷ [])) ∷ ((codes "IL (take 1)" ∷ ([] ∷ [])) ∷ ((codes "RT" ∷ ([] ∷ [])) ∷ ((codes "RT" ∷ (codes "TO" ∷ [])) ∷ ((codes "RT" ∷ (codes "CE" ∷ [])) ∷ []))))
unfolding stage settled judgement retired_by answer_reading reading run
errors_say_why setup = refl

-- if the game ends in that turn, the match stops instead
pub end_comes_first : (setup : Setup) → due (countdown 1) (out_at_the_end setup) 0 ≡ Owe 2 (Stop (Some (codes "(take 1)" ∷ (codes "noop" ∷ []))))
unfolding stage settled judgement retired_by answer_reading reading run
end_comes_first setup = refl

pub red_is_still_asked : (setup : Setup) → (due (countdown 10) (not_in_a_row setup) 0 ≡ Owe 4 (Play (Some (codes "(take 1)" ∷ (codes "noop" ∷ []))))) × (due (countdown 10) (never_out setup) 0 ≡ Owe 4 (Play (Some (codes "(take 1)" ∷ (codes "noop" ∷ [])))))
unfolding stage settled judgement retired_by answer_reading reading run
red_is_still_asked setup = (refl, refl)

abbrev texts : List ℕ → List ℕ → List (List ℕ)
texts red blue = red ∷ (blue ∷ [])

-- once red is retired, it gets no PLAY, but gets ABORT; blue gets each PLAY
pub messages_of_retired : (setup : Setup) → role_messages (countdown 10) (both_are_out setup) 0 ≡ Start ∷ (Play None ∷ (Play (Some (texts (codes "(take 1)") (codes "noop"))) ∷ (Abort ∷ [])))
unfolding stage settled judgement retired_by answer_reading reading run
messages_of_retired setup = refl

pub messages_of_other : (setup : Setup) → role_messages (countdown 10) (both_are_out setup) 1 ≡ Start ∷ (Play None ∷ (Play (Some (texts (codes "(take 1)") (codes "noop")))
    ∷ (Play (Some (texts (codes "noop") (codes "(take 1)"))) ∷ (Play (Some (texts (codes "(take 1)") (codes "noop"))) ∷ (Play (Some (texts (codes "noop") (codes "(take 1)"))) ∷ (Abort ∷ []))))))
unfolding stage settled judgement retired_by answer_reading reading run
messages_of_other setup = refl

-- so far red has answered all messages except ABORT
pub messages_so_far : (setup : Setup) → answered_messages (countdown 10) (both_are_out setup) 0 ≡ Start ∷ (Play None ∷ (Play (Some (texts (codes "(take 1)") (codes "noop"))) ∷ []))
unfolding stage settled judgement retired_by answer_reading reading run
messages_so_far setup = refl

-- a game that ends with its first turn, and a game without turns
pub messages_of_one_turn : (setup : Setup) → role_messages (countdown 1) (out_at_the_end setup) 1 ≡ Start ∷ (Play None ∷ (Stop (Some (texts (codes "(take 1)") (codes "noop"))) ∷ []))
unfolding stage settled judgement retired_by answer_reading reading run
messages_of_one_turn setup = refl

pub messages_of_no_turn : (setup : Setup) → role_messages (countdown 0) (ready 0 0 setup) 0 ≡ Start ∷ (Stop None ∷ [])
unfolding stage settled judgement retired_by answer_reading reading run
messages_of_no_turn setup = refl
