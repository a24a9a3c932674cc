-- The game of a description: the answers of every fit.
use Rattle.std.specs.Prelude.{ℕ, zero, suc, ◌<◌, ◌≡◌, Bool, true, false, ◌&&◌, ◌||◌, List, [], ◌∷◌, ◌++◌, map, filter, bytes_eq, Option, Some, None}
use Rattle.game_core.specs.Play.{Rules, IsJoint}
use Rattle.rule_sentences.specs.declared.sentence.Derived.{Derived}
use Rattle.rule_sentences.specs.declared.sentence.Derived.TheVariants.{Init, Next, Legal, Goal, Terminal}
use Rattle.rule_sentences.specs.Descriptions.{Description, same_derived, is_among, role_names, heads, moves_in}
use Rattle.numbered_rules.specs.Fit.{Situation, Fits}

-- role r makes move m; the first list has the names of the roles and the second their moves (it is empty if no role has moved)
abbrev pub makes : List (List ℕ) → List (List ℕ) → List ℕ → List ℕ → Bool
makes [] moves r m = false
makes (n ∷ ns) [] r m = false
makes (n ∷ ns) (x ∷ xs) r m = (bytes_eq n r && bytes_eq x m) || makes ns xs r m

-- a state's terms, and each role's move, as texts
abbrev pub situation : List (List ℕ) → List (List ℕ) → List (List ℕ) → Situation Derived (List ℕ)
situation terms names moves = record { same = same_derived; same_term = bytes_eq; in_state = is_among terms; does = makes names moves }

-- the role's only goal is n
pub record IsOnlyGoal (v : Derived → Bool) (role : List ℕ) (n : ℕ) : Type 0 where
  pub holds : v (Goal role n) ≡ true
  pub alone : (m : ℕ) → v (Goal role m) ≡ true → m ≡ n

abbrev pub IsGoalAnswer : (Derived → Bool) → List ℕ → Option ℕ → Type 0
IsGoalAnswer v role (Some n) = IsOnlyGoal v role n
IsGoalAnswer v role None = (n : ℕ) → ¬ (IsOnlyGoal v role n)

-- the names of the first n roles
abbrev pub names_of : {S M : Type 0} → Rules S M → ℕ → List (List ℕ)
names_of g zero = []
names_of g (suc n) = names_of g n ++ g.role_name n ∷ []

-- the state's terms, without moves
abbrev pub at_rest : {S M : Type 0} → Rules S M → S → Situation Derived (List ℕ)
at_rest g s = situation (g.state_text s) [] []

-- the state's terms, and a joint move
abbrev pub at_turn : {S M : Type 0} → Rules S M → S → List M → Situation Derived (List ℕ)
at_turn g s joint = situation (g.state_text s) (names_of g g.roles) (map g.move_text joint)

-- The game g is the game of the description: g and every fit give the same answers. An acyclic description has exactly one fit.
pub record IsGameOf {S M : Type 0} (d : Description) (g : Rules S M) : Type 0 where
  pub roles : names_of g g.roles ≡ role_names d
  pub initial : (v : Derived → Bool) → Fits (situation [] [] []) d v → (t : List ℕ) → is_among (g.state_text g.initial) t ≡ v (Init t)
  -- the legal moves are in the order of the first appearance of their heads
  pub legal : (s : S) (r : ℕ) (v : Derived → Bool) → g.IsState s → r < g.roles → Fits (at_rest g s) d v
      → map g.move_text (g.legal s r) ≡ filter (λ m. v (Legal (g.role_name r) m)) (moves_in (g.role_name r) (heads d))
  pub next : (s : S) (joint : List M) (v : Derived → Bool) → g.IsState s → IsJoint g s joint → Fits (at_turn g s joint) d v
      → (t : List ℕ) → is_among (g.state_text (g.next s joint)) t ≡ v (Next t)
  pub terminal : (s : S) (v : Derived → Bool) → g.IsState s → Fits (at_rest g s) d v → g.terminal s ≡ v Terminal
  pub goal : (s : S) (r : ℕ) (v : Derived → Bool) → g.IsState s → r < g.roles → Fits (at_rest g s) d v → IsGoalAnswer v (g.role_name r) (g.goal s r)
