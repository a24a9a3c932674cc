-- The derived atoms that depend on the state or on moves.
use Rattle.std.specs.Prelude.{ℕ, ◌≡◌, ◌⊎◌, Bool, true, false, ◌||◌, List, [], ◌∷◌}
use Rattle.rule_sentences.specs.declared.sentence.Derived.{Derived}
use Rattle.rule_sentences.specs.declared.sentence.Derived.TheVariants.{Role, Init, Next, Legal, Goal, Terminal, Other}
use Rattle.numbered_rules.specs.Literals.{Literal, Literals, Holds, InState, Does, Distinct, Not, Or, End, More, Rule}
use Rattle.rule_sentences.specs.Descriptions.{Description}

-- the literal contains a `does` sentence or, if of_state is set, a `true` sentence
abbrev mutual
  pub speaks_of_given : {A T : Type 0} → Bool → Literal A T → Bool
  speaks_of_given of_state (Holds a) = false
  speaks_of_given of_state (InState t) = of_state
  speaks_of_given of_state (Does r m) = true
  speaks_of_given of_state (Distinct t u) = false
  speaks_of_given of_state (Not l) = speaks_of_given of_state l
  speaks_of_given of_state (Or ls) = any_speaks_of_given of_state ls

  pub any_speaks_of_given : {A T : Type 0} → Bool → Literals A T → Bool
  any_speaks_of_given of_state End = false
  any_speaks_of_given of_state (More l ls) = speaks_of_given of_state l || any_speaks_of_given of_state ls

-- the literal contains the derived atom
abbrev mutual
  pub SpeaksOf : {A T : Type 0} → A → Literal A T → Type 0
  SpeaksOf b (Holds a) = a ≡ b
  SpeaksOf b (InState t) = ⊥
  SpeaksOf b (Does r m) = ⊥
  SpeaksOf b (Distinct t u) = ⊥
  SpeaksOf b (Not l) = SpeaksOf b l
  SpeaksOf b (Or ls) = AnySpeaksOf b ls

  pub AnySpeaksOf : {A T : Type 0} → A → Literals A T → Type 0
  AnySpeaksOf b End = ⊥
  AnySpeaksOf b (More l ls) = SpeaksOf b l ⊎ AnySpeaksOf b ls

abbrev pub IsRuleOf : {A T : Type 0} → Rule A T → List (Rule A T) → Type 0
IsRuleOf r [] = ⊥
IsRuleOf r (q ∷ qs) = (r ≡ q) ⊎ IsRuleOf r qs

-- a depends on a given sentence: some rule with the head a contains a given sentence, or an atom that depends on a given sentence
pub data DependsOnGiven (A T : Type 0) (of_state : Bool) (rules : List (Rule A T)) : A → Type 0 where
  at_once : (a : A) (r : Rule A T) → IsRuleOf r rules → r.head ≡ a → any_speaks_of_given of_state r.body ≡ true → DependsOnGiven A T of_state rules a
  through : (a b : A) (r : Rule A T) → IsRuleOf r rules → r.head ≡ a → AnySpeaksOf b r.body → DependsOnGiven A T of_state rules b → DependsOnGiven A T of_state rules a

-- a `legal`, `goal` or `terminal` head that depends on a `does` sentence, or an `init` head that depends on a `true` or `does` sentence
abbrev pub IsBarred : Description → Derived → Type 0
IsBarred d (Legal r m) = DependsOnGiven Derived (List ℕ) false d (Legal r m)
IsBarred d (Goal r n) = DependsOnGiven Derived (List ℕ) false d (Goal r n)
IsBarred d Terminal = DependsOnGiven Derived (List ℕ) false d Terminal
IsBarred d (Init t) = DependsOnGiven Derived (List ℕ) true d (Init t)
IsBarred d (Role r) = ⊥
IsBarred d (Next t) = ⊥
IsBarred d (Other t) = ⊥

-- some head depends on something that it may not depend on
abbrev pub HasBarredHead : Description → Type 0
HasBarredHead d = (a : Derived) × IsBarred d a
