-- The values that a match stores in addition to its plain value, so that no call iterates over all turns.
use Rattle.std.specs.Prelude.{◌≡◌, ℕ, ◌<◌, List, Option, Some, length, take, slice_get}
use Rattle.game_core.specs.Play.{Rules}
use Rattle.match_book.specs.Roles.{at_role}
use Rattle.match_book.specs.MatchValue.{MatchValue, state_after, substitutions}
use Rattle.match_book.specs.Phase.{stage, answered_in, goal_in}
use Rattle.match_book.specs.LegalMoves.{AreLegalMoves}
use Rattle.match_book.specs.Lawful.{IsLawfulMatch}
use Rattle.match_book.specs.RoleStrikes.{AreStrikes, count_roles}
use Rattle.match_book.specs.declared.retirement.RoleStrikes.{RoleStrikes}
use Rattle.match_book.specs.declared.turn.Turn.{Turn}
use Rattle.match_book.specs.declared.phase.Stage.{Stage}
use Rattle.match_book.specs.declared.phase.Stage.TheVariants.{Playing}

-- the states before each of these turns, in order
pub record ArePast {S M : Type 0} (g : Rules S M) (turns : List (Turn M)) (past : List S) : Type 0 where
  pub one_each : length past ≡ length turns
  pub before : (k : ℕ) → k < length turns → slice_get past k ≡ Some (state_after g (take k turns))

-- The match is lawful. The other arguments are the match's past states, its present state, its stage, the number of roles that have answered
-- this round, the number of replaced moves, each role's strikes, each role's legal moves in play, and the goals.
pub record IsKept {S M : Type 0} (g : Rules S M) (m : MatchValue M) (past : List S) (s : S) (at : Stage) (answered substituted : ℕ) (strikes : List RoleStrikes) (legal : List (List M)) (goals : List (Option ℕ)) : Type 0 where
  pub lawful : IsLawfulMatch g m
  pub past_are : ArePast g m.turns past
  pub state_is : s ≡ state_after g m.turns
  pub is_state : g.IsState s
  pub stage_is : at ≡ stage g m
  pub answered_is : answered ≡ count_roles g.roles (answered_in at m)
  pub substituted_is : substituted ≡ substitutions m.turns
  pub strikes_are : AreStrikes g.roles m.setup.strikes m.turns strikes
  pub legal_are : at ≡ Playing → AreLegalMoves g s legal
  pub goals_are : (r : ℕ) → r < g.roles → at_role goals r ≡ goal_in at g s r
