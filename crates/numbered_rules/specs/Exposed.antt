-- Dependence expressed as a fit: an atom depends on given sentences if the body of one of its rules has such a sentence, or an atom that
-- depends on one.

use Rattle.std.specs.Prelude.{Bool, true, false, List, map}
use Rattle.numbered_rules.specs.Literals.{Literal, Literals, Holds, InState, Does, Distinct, Not, Or, End, More, Rule}
use Rattle.numbered_rules.specs.Numbered.{known}

-- the literal without its `not`; each `does` sentence counts as true; if of_state is set, each `true` sentence also counts as true
abbrev mutual
  pub exposed : {A T : Type 0} → Bool → Literal A T → Literal A T
  exposed of_state (Holds a) = Holds a
  exposed of_state (InState t) = known of_state
  exposed of_state (Does r m) = known true
  exposed of_state (Distinct t u) = known false
  exposed of_state (Not l) = exposed of_state l
  exposed of_state (Or ls) = Or (all_exposed of_state ls)

  pub all_exposed : {A T : Type 0} → Bool → Literals A T → Literals A T
  all_exposed of_state End = End
  all_exposed of_state (More l ls) = More (exposed of_state l) (all_exposed of_state ls)

abbrev pub exposed_rule : {A T : Type 0} → Bool → Rule A T → Rule A T
exposed_rule of_state r = record { head = r.head; body = More (Or (all_exposed of_state r.body)) End }

abbrev pub exposed_rules : {A T : Type 0} → Bool → List (Rule A T) → List (Rule A T)
exposed_rules of_state rs = map (exposed_rule of_state) rs
