-- Games, and the states that joint moves lead to.
use Rattle.std.specs.Prelude.{ℕ, Bool, false, List, [], ◌∷◌, Option, Contains, length, slice_index_or, AllPairs, codes, Some, ◌≡◌, ◌≢◌, ◌<◌, ◌≤◌, All}
use Rattle.game_core.specs.Canonical.{IsCanonicalText, IsFoldedText}
use Rattle.game_core.specs.Texts.{AreInByteOrder}

-- the largest number of roles of a game
abbrev pub max_roles : ℕ
max_roles = 16

-- the highest goal value
abbrev pub max_goal : ℕ
max_goal = 100

-- The rules of a game with states of type S and moves of type M. Roles are numbered from 0. IsState and IsMove hold for the values of
-- these types that belong to the game.
pub record Rules (S M : Type 0) : Type 1 where
  pub roles : ℕ
  pub role_name : ℕ → List ℕ
  pub initial : S
  pub legal : S → ℕ → List M
  pub next : S → List M → S
  pub terminal : S → Bool
  pub goal : S → ℕ → Option ℕ
  pub move_text : M → List ℕ
  pub state_text : S → List (List ℕ)
  pub IsState : S → Type 0
  pub IsMove : M → Type 0

-- one legal move for each role
pub record IsJoint {S M : Type 0} (g : Rules S M) (s : S) (joint : List M) : Type 0 where
  pub width : length joint ≡ g.roles
  pub legal : (r : ℕ) (d : M) → r < g.roles → Contains (g.legal s r) (slice_index_or joint r d)

-- the laws of every game
pub record IsLawful {S M : Type 0} (g : Rules S M) : Type 0 where
  pub some_role : 1 ≤ g.roles
  pub few_roles : g.roles ≤ max_roles
  pub role_names_folded : (r : ℕ) → r < g.roles → IsFoldedText (g.role_name r)
  pub role_names_differ : (q r : ℕ) → q < g.roles → r < g.roles → g.role_name q ≡ g.role_name r → q ≡ r
  pub initial_is_state : g.IsState g.initial
  pub next_is_state : (s : S) (joint : List M) → g.IsState s → IsJoint g s joint → g.IsState (g.next s joint)
  pub legal_are_moves : (s : S) (r : ℕ) → g.IsState s → r < g.roles → All (λ m. g.IsMove m) (g.legal s r)
  pub legal_differ : (s : S) (r : ℕ) → g.IsState s → r < g.roles → AllPairs (λ m n. m ≢ n) (g.legal s r)
  pub move_texts_folded : (m : M) → g.IsMove m → IsFoldedText (g.move_text m)
  pub one_move_for_each_text : (m n : M) → g.IsMove m → g.IsMove n → g.move_text m ≡ g.move_text n → m ≡ n
  -- a match writes `?` as the text of an unreadable answer
  pub no_question : (m : M) → g.IsMove m → g.move_text m ≢ codes "?"
  pub state_texts_canonical : (s : S) → g.IsState s → All IsCanonicalText (g.state_text s)
  pub state_texts_ordered : (s : S) → g.IsState s → AreInByteOrder (g.state_text s)
  pub goal_in_range : (s : S) (r v : ℕ) → g.IsState s → r < g.roles → g.goal s r ≡ Some v → v ≤ max_goal

-- the state after these joint moves, from the state s
abbrev pub play_from : {S M : Type 0} → Rules S M → S → List (List M) → S
play_from g s [] = s
play_from g s (j ∷ js) = play_from g (g.next s j) js

abbrev pub play : {S M : Type 0} → Rules S M → List (List M) → S
play g turns = play_from g g.initial turns

-- from the state s, each turn is legal: the state before the turn is not terminal, and each role makes a legal move
abbrev pub AreLegalFrom : {S M : Type 0} → Rules S M → S → List (List M) → Type 0
AreLegalFrom g s [] = Unit {0}
AreLegalFrom g s (j ∷ js) = (g.terminal s ≡ false) × IsJoint g s j × AreLegalFrom g (g.next s j) js

abbrev pub AreLegal : {S M : Type 0} → Rules S M → List (List M) → Type 0
AreLegal g turns = AreLegalFrom g g.initial turns

-- these turns are legal, and lead to the state s
pub record IsAt {S M : Type 0} (g : Rules S M) (turns : List (List M)) (s : S) : Type 0 where
  pub is_play : s ≡ play g turns
  pub legal : AreLegal g turns
  pub is_state : g.IsState s
