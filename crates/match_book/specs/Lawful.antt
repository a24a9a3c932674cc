-- Lawful turns and matches: the properties of every match of a game.
use Rattle.std.specs.Prelude.{◌≡◌, ℕ, ◌<◌, ◌≤◌, true, false, List, [], length, take, Some, slice_index_or}
use Rattle.game_core.specs.Play.{Rules, IsJoint}
use Rattle.match_book.specs.Roles.{every_role, at_role, is_there, blank}
use Rattle.match_book.specs.Judgement.{IsJudged, IsPart}
use Rattle.match_book.specs.Retirement.{retired_by}
use Rattle.match_book.specs.MatchValue.{MatchValue, state_after}
use Rattle.match_book.specs.Phase.{stage, has_answered, still_answers, is_playing, is_live, max_turns}
use Rattle.match_book.specs.declared.judgement.Judgement.{Judgement}
use Rattle.match_book.specs.declared.turn.Turn.{Turn}

-- A turn that may follow the turns before it: the state is not terminal, some role is not retired, and each role's move and error are a
-- lawful part of the turn.
pub record IsLawfulTurn {S M : Type 0} (g : Rules S M) (strikes : ℕ) (before : List (Turn M)) (t : Turn M) : Type 0 where
  pub goes_on : g.terminal (state_after g before) ≡ false
  pub some_answer : every_role g.roles (retired_by strikes before) ≡ false
  pub joint : IsJoint g (state_after g before) t.moves
  pub one_error : length t.errors ≡ g.roles
  pub judged : (r : ℕ) (d : M) → r < g.roles → IsPart g (retired_by strikes before r) (g.legal (state_after g before) r) (slice_index_or t.moves r d) (slice_index_or t.errors r [])

-- each turn may follow the turns before it, if this many replaced moves in a row retire a role
abbrev pub AreLawful : {S M : Type 0} → Rules S M → ℕ → List (Turn M) → Type 0
AreLawful {S} {M} g strikes turns = (k : ℕ) (d : Turn M) → k < length turns → IsLawfulTurn g strikes (take k turns) (slice_index_or turns k d)

-- the properties that a match keeps through any answers and aborts
pub record IsLawfulMatch {S M : Type 0} (g : Rules S M) (m : MatchValue M) : Type 0 where
  -- each role has one player, and one index in each list
  pub one_player : length m.setup.players ≡ g.roles
  pub one_start_mark : length m.start_marks ≡ g.roles
  pub one_open_answer : length m.open_answers ≡ g.roles
  pub one_end_mark : length m.end_marks ≡ g.roles
  -- the turns are lawful, and there are none until all START marks are present
  pub turns : AreLawful g m.setup.strikes m.turns
  pub few_turns : length m.turns ≤ max_turns
  pub turns_after_start : every_role g.roles (is_there m.start_marks) ≡ false → m.turns ≡ []
  -- open answers exist only in play, and only for roles that are not retired, but never for all of these roles; each one is a judgement in
  -- the present state
  pub judged : (r : ℕ) (j : Judgement M) → r < g.roles → at_role m.open_answers r ≡ Some j → (still_answers m r ≡ true) × IsJudged g (g.legal (state_after g m.turns) r) j.taken j.error
  pub answers_in_play : is_playing (stage g m) ≡ false → m.open_answers ≡ blank g.roles
  pub round_is_open : is_playing (stage g m) ≡ true → every_role g.roles (has_answered g m) ≡ false
  -- end marks exist only if the match is stopping or aborting
  pub ends_at_end : is_live (stage g m) ≡ true → m.end_marks ≡ blank g.roles
  -- an abort was requested only while the match was starting or playing
  pub asked_when_live : m.abort_asked ≡ true → is_live (stage g (record m { abort_asked = false })) ≡ true
