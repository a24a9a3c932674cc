-- A pass in two parts: rules that do not depend on moves, and the others.
use Rattle.std.proofs.Common.{ℕ, ◌≡◌, Bool, true, false, not, if◌then◌else◌, List, [], ◌∷◌, ◌++◌, refl, ap, ◌∙◌, set, get_or-set_other}
use Rattle.ground_rules.specs.Lawfulness.Bools.{or-false-left, or-false-right}
use Rattle.numbered_rules.specs.Literals.{Literal, Literals, Holds, InState, Does, Distinct, Not, Or, End, More, Rule}
use Rattle.numbered_rules.specs.Fit.{Situation, truth, any_true, all_true}
use Rattle.ground_rules.specs.Dependence.{speaks_of_given, any_speaks_of_given}
use Rattle.numbered_rules.specs.Numbered.{bit, numbered, row_after}
use Rattle.ground_rules.specs.Internal.SplitRules.{SpeakOfNoMoves, IsNoHead}
use Rattle.ground_rules.proofs.Pass.{raised}

pub pass-append : (w : Situation ℕ ℕ) (row : List Bool) (xs ys : List (Rule ℕ ℕ)) → row_after w row (xs ++ ys) ≡ row_after w (row_after w row xs) ys
pass-append w row [] ys = refl
pass-append w row (r ∷ xs) ys = pass-append w (raised w row r) xs ys

mutual
  still : (state : List Bool) (joint : List ℕ) (v : ℕ → Bool) (l : Literal ℕ ℕ) → speaks_of_given false l ≡ false → truth (numbered state joint) v l ≡ truth (numbered state []) v l
  still state joint v (Holds a) h = refl
  still state joint v (InState t) h = refl
  still state joint v (Does r m) h = absurd cc
  still state joint v (Distinct t u) h = refl
  still state joint v (Not l) h = ap not (still state joint v l h)
  still state joint v (Or ls) h = any-still state joint v ls h

  any-still : (state : List Bool) (joint : List ℕ) (v : ℕ → Bool) (ls : Literals ℕ ℕ) → any_speaks_of_given false ls ≡ false → any_true (numbered state joint) v ls ≡ any_true (numbered state []) v ls
  any-still state joint v End h = refl
  any-still state joint v (More l ls) h =
      let e = still state joint v l (or-false-left _ _ h) in
      let f = any-still state joint v ls (or-false-right (speaks_of_given false l) _ h) in
      cc

all-still : (state : List Bool) (joint : List ℕ) (v : ℕ → Bool) (ls : Literals ℕ ℕ) → any_speaks_of_given false ls ≡ false → all_true (numbered state joint) v ls ≡ all_true (numbered state []) v ls
all-still state joint v End h = refl
all-still state joint v (More l ls) h =
    let e = still state joint v l (or-false-left _ _ h) in
    let f = all-still state joint v ls (or-false-right (speaks_of_given false l) _ h) in
    cc

-- a pass over rules that contain no does sentence does not depend on the moves
pub still-pass : (state : List Bool) (joint : List ℕ) (row : List Bool) (rs : List (Rule ℕ ℕ)) → SpeakOfNoMoves rs → row_after (numbered state joint) row rs ≡ row_after (numbered state []) row rs
still-pass state joint row [] h = refl
still-pass state joint row (r ∷ rs) h =
    ap (λ (t : Bool). row_after (numbered state joint) (if t then set row r.head true else row) rs) (all-still state joint (bit row) r.body h.0)
    ∙ still-pass state joint (raised (numbered state []) row r) rs h.1

-- a pass keeps the truth of all atoms that are not heads of its rules
pub kept-bit : (w : Situation ℕ ℕ) (row : List Bool) (rs : List (Rule ℕ ℕ)) (n : ℕ) → IsNoHead n rs → bit (row_after w row rs) n ≡ bit row n
kept-bit w row [] n h = refl
kept-bit w row (r ∷ rs) n h = kept-bit w (raised w row r) rs n h.1 ∙ one (all_true w (bit row) r.body)
  where
    one : (t : Bool) → bit (if t then set row r.head true else row) n ≡ bit row n
    one true = get_or-set_other row r.head n true false h.0
    one false = refl
