-- The stages of a match.
use Rattle.std.proofs.Common.{◌≡◌, ◌≢◌, ℕ, ◌<◌, Bool, true, false, Option, Some, None, length, refl, arith, ap, sym, subst, ◌∙◌}
use Rattle.std.proofs.lemmas.Bool.Decides.{nat_tests}
use Rattle.std.specs.Prelude.{if◌then◌else◌, nat_le, not}
use Rattle.game_core.specs.Play.{Rules}
use Rattle.match_book.specs.Roles.{every_role, lowest_role, is_there, blank}
use Rattle.match_book.specs.MatchValue.{MatchValue, state_after}
use Rattle.match_book.specs.Phase.{stage, settled, after_the_end, before_the_end, still_answers, answered_in, goal_in, is_live, max_turns, has_no_goal, has_no_move, is_playing}
use Rattle.match_book.specs.Retirement.{is_retired, are_all_retired}
use Rattle.match_book.specs.Laws.{StartingMeans, IsInPlay, PlayingMeans, HasStopped, StoppingMeans, BegunRoundsAreOpen}
use Rattle.match_book.specs.declared.phase.Cause.TheVariants.{Asked, TooLong}
use Rattle.match_book.specs.declared.phase.Stage.{Stage}
use Rattle.match_book.specs.declared.phase.Stage.TheVariants.{Starting, Playing, Stopping, Aborting}
use Rattle.match_book.proofs.RoleTests.{is_there-blank, lowest_role-all, lowest_role-none, every_role-same}

pub stage-by : {S M : Type 0} (g : Rules S M) (m n : MatchValue M) → n.setup ≡ m.setup → n.abort_asked ≡ m.abort_asked → n.start_marks ≡ m.start_marks → n.turns ≡ m.turns → stage g n ≡ stage g m
unfolding stage
stage-by g m n setup asked starts turns = rw (setup, asked, starts, turns) refl

pub stage-asked : {S M : Type 0} (g : Rules S M) (m : MatchValue M) → m.abort_asked ≡ true → stage g m ≡ Aborting Asked
unfolding stage
stage-asked g m asked = rw asked refl

pub stage-starting : {S M : Type 0} (g : Rules S M) (m : MatchValue M) → m.abort_asked ≡ false → every_role g.roles (is_there m.start_marks) ≡ false → stage g m ≡ Starting
unfolding stage
stage-starting g m asked starts = rw (asked, starts) refl

pub stage-settled : {S M : Type 0} (g : Rules S M) (m : MatchValue M) → m.abort_asked ≡ false → every_role g.roles (is_there m.start_marks) ≡ true → stage g m ≡ settled g (length m.turns) (are_all_retired g.roles m) (state_after g m.turns)
unfolding stage
stage-settled g m asked starts = rw (asked, starts) refl

pub live-not_asked : {S M : Type 0} (g : Rules S M) (m : MatchValue M) → is_live (stage g m) ≡ true → m.abort_asked ≡ false
unfolding stage
live-not_asked g m live = step m.abort_asked refl (if every_role g.roles (is_there m.start_marks) then settled g (length m.turns) (are_all_retired g.roles m) (state_after g m.turns) else Starting) live
  where
    step : (a : Bool) → m.abort_asked ≡ a → (rest : Stage) → is_live (if a then Aborting Asked else rest) ≡ true → m.abort_asked ≡ false
    step true is rest live = absurd cc
    step false is rest live = is

pub settled-not_starting : {S M : Type 0} (g : Rules S M) (t : ℕ) (all_retired : Bool) (s : S) → settled g t all_retired s ≢ Starting
unfolding settled
settled-not_starting g t all_retired s e = step (g.terminal s) (nat_le max_turns t) (lowest_role g.roles (has_no_goal g s)) (lowest_role g.roles (has_no_move g s)) all_retired e
  where
    step : (over long : Bool) (goals moves : Option ℕ) (all : Bool) → (if over then after_the_end goals else (if long then Aborting TooLong else before_the_end moves all)) ≢ Starting
    step true long None moves all e = absurd cc
    step true long (Some r) moves all e = absurd cc
    step false true goals moves all e = absurd cc
    step false false goals None true e = absurd cc
    step false false goals None false e = absurd cc
    step false false goals (Some r) all e = absurd cc

pub starting-missing : {S M : Type 0} (g : Rules S M) (m : MatchValue M) → stage g m ≡ Starting → every_role g.roles (is_there m.start_marks) ≡ false
unfolding stage
starting-missing g m e = step m.abort_asked (every_role g.roles (is_there m.start_marks)) refl (settled g (length m.turns) (are_all_retired g.roles m) (state_after g m.turns)) (settled-not_starting g (length m.turns) (are_all_retired g.roles m) (state_after g m.turns)) e
  where
    step : (a all : Bool) → every_role g.roles (is_there m.start_marks) ≡ all → (rest : Stage) → rest ≢ Starting → (if a then Aborting Asked else (if all then rest else Starting)) ≡ Starting → every_role g.roles (is_there m.start_marks) ≡ false
    step true all is rest ne e = absurd cc
    step false true is rest ne e = absurd (ne e)
    step false false is rest ne e = is

stage-parts : {S M : Type 0} (g : Rules S M) (m : MatchValue M) (at : Stage) → at ≢ Starting → at ≢ Aborting Asked → stage g m ≡ at
    → (m.abort_asked ≡ false) × (every_role g.roles (is_there m.start_marks) ≡ true) × (settled g (length m.turns) (are_all_retired g.roles m) (state_after g m.turns) ≡ at)
unfolding stage
stage-parts g m at not_start not_asked e = step m.abort_asked refl (every_role g.roles (is_there m.start_marks)) refl (settled g (length m.turns) (are_all_retired g.roles m) (state_after g m.turns)) refl e
  where
    step : (a : Bool) → m.abort_asked ≡ a → (all : Bool) → every_role g.roles (is_there m.start_marks) ≡ all → (rest : Stage) → settled g (length m.turns) (are_all_retired g.roles m) (state_after g m.turns) ≡ rest
        → (if a then Aborting Asked else (if all then rest else Starting)) ≡ at
        → (m.abort_asked ≡ false) × (every_role g.roles (is_there m.start_marks) ≡ true) × (settled g (length m.turns) (are_all_retired g.roles m) (state_after g m.turns) ≡ at)
    step true asked all is rest same e = absurd (not_asked (sym e))
    step false asked true is rest same e = (asked, is, same ∙ e)
    step false asked false is rest same e = absurd (not_start (sym e))

-- play continues if the state is not terminal, there are fewer than 10,000 turns, each role has a legal move, and some role is not
-- retired
settled-playing : {S M : Type 0} (g : Rules S M) (t : ℕ) (all_retired : Bool) (s : S) → settled g t all_retired s ≡ Playing
    → (g.terminal s ≡ false) × (nat_le max_turns t ≡ false) × (lowest_role g.roles (has_no_move g s) ≡ None) × (all_retired ≡ false)
unfolding settled
settled-playing g t all_retired s e = step (g.terminal s) (nat_le max_turns t) (lowest_role g.roles (has_no_goal g s)) (lowest_role g.roles (has_no_move g s)) all_retired e
  where
    step : (over long : Bool) (goals moves : Option ℕ) (all : Bool) → (if over then after_the_end goals else (if long then Aborting TooLong else before_the_end moves all)) ≡ Playing
        → (over ≡ false) × (long ≡ false) × (moves ≡ None) × (all ≡ false)
    step true long None moves all e = absurd cc
    step true long (Some r) moves all e = absurd cc
    step false true goals moves all e = absurd cc
    step false false goals None true e = absurd cc
    step false false goals None false e = (refl, refl, refl, refl)
    step false false goals (Some r) all e = absurd cc

settled-plays : {S M : Type 0} (g : Rules S M) (t : ℕ) (all_retired : Bool) (s : S) → g.terminal s ≡ false → nat_le max_turns t ≡ false → lowest_role g.roles (has_no_move g s) ≡ None → all_retired ≡ false → settled g t all_retired s ≡ Playing
unfolding settled
settled-plays g t all_retired s goes_on few moves some = rw (goes_on, few, moves, some) refl

settled-stopping : {S M : Type 0} (g : Rules S M) (t : ℕ) (all_retired : Bool) (s : S) → settled g t all_retired s ≡ Stopping → (g.terminal s ≡ true) × (lowest_role g.roles (has_no_goal g s) ≡ None)
unfolding settled
settled-stopping g t all_retired s e = step (g.terminal s) (nat_le max_turns t) (lowest_role g.roles (has_no_goal g s)) (lowest_role g.roles (has_no_move g s)) all_retired e
  where
    step : (over long : Bool) (goals moves : Option ℕ) (all : Bool) → (if over then after_the_end goals else (if long then Aborting TooLong else before_the_end moves all)) ≡ Stopping → (over ≡ true) × (goals ≡ None)
    step true long None moves all e = (refl, refl)
    step true long (Some r) moves all e = absurd cc
    step false true goals moves all e = absurd cc
    step false false goals None true e = absurd cc
    step false false goals None false e = absurd cc
    step false false goals (Some r) all e = absurd cc

settled-stops : {S M : Type 0} (g : Rules S M) (t : ℕ) (all_retired : Bool) (s : S) → g.terminal s ≡ true → lowest_role g.roles (has_no_goal g s) ≡ None → settled g t all_retired s ≡ Stopping
unfolding settled
settled-stops g t all_retired s ended goals = rw (ended, goals) refl

-- before a match stops, no role has a goal
pub goal_in-live : {S M : Type 0} (g : Rules S M) (at : Stage) (s : S) (r : ℕ) → is_live at ≡ true → goal_in at g s r ≡ None
goal_in-live g Starting s r live = refl
goal_in-live g Playing s r live = refl
goal_in-live g Stopping s r live = absurd cc
goal_in-live g (Aborting c) s r live = refl

-- when a round outside of play begins, no role has answered
pub answered_in-none : {M : Type 0} (at : Stage) (m : MatchValue M) (n k : ℕ) → at ≢ Starting → at ≢ Playing → m.end_marks ≡ blank n → answered_in at m k ≡ false
answered_in-none Starting m n k ne out ends = absurd (ne refl)
answered_in-none Playing m n k ne out ends = absurd (out refl)
answered_in-none Stopping m n k ne out ends = rw ends (is_there-blank _ n k)
answered_in-none (Aborting c) m n k ne out ends = rw ends (is_there-blank _ n k)

-- when a round of play begins, only the retired roles count as having answered
pub answered_in-retired : {M : Type 0} (m : MatchValue M) (n k : ℕ) → m.open_answers ≡ blank n → answered_in Playing m k ≡ is_retired m k
answered_in-retired m n k answers = step (is_retired m k) (ap (λ l. is_there l k) answers ∙ is_there-blank _ n k)
  where
    step : (b : Bool) → is_there m.open_answers k ≡ false → (if not b then is_there m.open_answers k else true) ≡ b
    step true none = refl
    step false none = none

pub not_answered-parts : {M : Type 0} (m : MatchValue M) (k : ℕ) → answered_in Playing m k ≡ false → (still_answers m k ≡ true) × (is_there m.open_answers k ≡ false)
not_answered-parts m k free = step (still_answers m k) refl free
  where
    step : (b : Bool) → still_answers m k ≡ b → (if b then is_there m.open_answers k else true) ≡ false → (still_answers m k ≡ true) × (is_there m.open_answers k ≡ false)
    step true is free = (is, free)
    step false is free = absurd cc

playing-live : (at : Stage) → is_playing at ≡ true → at ≡ Playing
playing-live Starting e = absurd cc
playing-live Playing e = refl
playing-live Stopping e = absurd cc
playing-live (Aborting c) e = absurd cc

less-max : (n : ℕ) → nat_le max_turns n ≡ false → n < max_turns
less-max n e = grind (arith, nat_tests)

not-max : (n : ℕ) → n < max_turns → nat_le max_turns n ≡ false
not-max n lt = grind (arith, nat_tests)

pub starting_means : {S M : Type 0} (g : Rules S M) → StartingMeans g
starting_means g m = (λ is. (live-not_asked g m (ap is_live is), starting-missing g m is), λ parts. stage-starting g m parts.0 parts.1)

pub playing_means : {S M : Type 0} (g : Rules S M) → PlayingMeans g
playing_means g m = (to, from)
  where
    to : stage g m ≡ Playing → IsInPlay g m
    to is =
        let parts = stage-parts g m Playing (λ w. cc) (λ w. cc) is in
        let plays = settled-playing g (length m.turns) (are_all_retired g.roles m) (state_after g m.turns) parts.2 in
        record {
          not_asked = parts.0;
          started = parts.1;
          goes_on = plays.0;
          few = less-max (length m.turns) plays.1;
          moves = λ r lt. lowest_role-none g.roles r (has_no_move g (state_after g m.turns)) plays.2 lt;
          some_answer = plays.3;
        }

    from : IsInPlay g m → stage g m ≡ Playing
    from in_play =
        stage-settled g m in_play.not_asked in_play.started
        ∙ settled-plays g (length m.turns) (are_all_retired g.roles m) (state_after g m.turns) in_play.goes_on (not-max (length m.turns) in_play.few)
        (lowest_role-all g.roles (has_no_move g (state_after g m.turns)) in_play.moves) in_play.some_answer

pub stopping_means : {S M : Type 0} (g : Rules S M) → StoppingMeans g
stopping_means g m = (to, from)
  where
    to : stage g m ≡ Stopping → HasStopped g m
    to is =
        let parts = stage-parts g m Stopping (λ w. cc) (λ w. cc) is in
        let stops = settled-stopping g (length m.turns) (are_all_retired g.roles m) (state_after g m.turns) parts.2 in
        record { not_asked = parts.0; started = parts.1; ended = stops.0; goals = λ r lt. lowest_role-none g.roles r (has_no_goal g (state_after g m.turns)) stops.1 lt }

    from : HasStopped g m → stage g m ≡ Stopping
    from stopped =
        stage-settled g m stopped.not_asked stopped.started
        ∙ settled-stops g (length m.turns) (are_all_retired g.roles m) (state_after g m.turns) stopped.ended (lowest_role-all g.roles (has_no_goal g (state_after g m.turns)) stopped.goals)

-- when a round of play begins, only the retired roles count as having answered
pub begun_rounds_are_open : {S M : Type 0} (g : Rules S M) → BegunRoundsAreOpen g
begun_rounds_are_open g m playing answers =
    let is : stage g m ≡ Playing = playing-live (stage g m) playing in
    let none : every_role g.roles (answered_in Playing m) ≡ false = every_role-same g.roles (is_retired m) (answered_in Playing m) (λ k lt. answered_in-retired m g.roles k answers) ∙ ((playing_means g m).0 is).some_answer in
    subst (λ (at : Stage). every_role g.roles (answered_in at m) ≡ false) (sym is) none
