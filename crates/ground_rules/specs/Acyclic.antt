-- Rules without a derived atom that depends on itself.
use Rattle.std.specs.Prelude.{ℕ, ◌<◌, List, [], ◌∷◌}
use Rattle.numbered_rules.specs.Literals.{Rule, AllAtomsAre}

-- each derived atom in a rule's literals has a lower number than the rule's head
abbrev pub IsNumbering : {A T : Type 0} → (A → ℕ) → List (Rule A T) → Type 0
IsNumbering number [] = Unit {0}
IsNumbering number (r ∷ rs) = AllAtomsAre (λ a. number a < number r.head) r.body × IsNumbering number rs

abbrev pub IsAcyclic : {A T : Type 0} → List (Rule A T) → Type 0
IsAcyclic {A} rules = (number : A → ℕ) × IsNumbering number rules
