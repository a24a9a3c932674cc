-- The goal of a role, according to the fit.
use Rattle.std.proofs.Common.{◌≡◌, ℕ, ◌+◌, ◌≤◌, ◌⊎◌, inl, inr, Bool, true, false, ◌&&◌, ◌||◌, if◌then◌else◌, nat_eq, bytes_eq, List, [], ◌∷◌, filter, refl, sym, ap, ◌∙◌, arith}
use Rattle.std.specs.List.{list_any}
use Rattle.rule_sentences.specs.declared.sentence.Derived.{Derived}
use Rattle.rule_sentences.specs.declared.sentence.Derived.TheVariants.{Role, Init, Next, Legal, Goal, Terminal, Other}
use Rattle.ground_rules.specs.declared.tables.GoalHead.{GoalHead}
use Rattle.ground_rules.specs.Lawfulness.Bools.{and-left, and-right}
use Rattle.ground_rules.specs.Lawfulness.Names.{text-sound, text-same, number-sound}
use Rattle.rule_sentences.specs.Descriptions.{same_derived}
use Rattle.ground_rules.specs.Described.{IsGoalAnswer}
use Rattle.ground_rules.specs.Lookups.{only, only_goal}
use Rattle.numbered_rules.specs.Numbered.{bit}
use Rattle.ground_rules.specs.Internal.Resolved.{NameTable, atom_number, goal_heads}
use Rattle.ground_rules.proofs.Mentions.{StandFrom, IsByRow}

-- each goal head is at its place, and the places increase
abbrev AreGoalsFrom : NameTable → List ℕ → ℕ → List GoalHead → Type 0
AreGoalsFrom names role n [] = Unit {0}
AreGoalsFrom names role n (g ∷ gs) = (n ≤ g.atom) × (atom_number names (Goal role g.value) ≡ g.atom) × AreGoalsFrom names role (g.atom + 1) gs

earlier : (names : NameTable) (role : List ℕ) (n m : ℕ) (gs : List GoalHead) → n ≤ m → AreGoalsFrom names role m gs → AreGoalsFrom names role n gs
earlier names role n m [] le h = tt
earlier names role n m (g ∷ gs) le h = (omega (arith, le, h.0), h.1, h.2)

goals-by : (names : NameTable) (role r : List ℕ) (n k : ℕ) (gs : List GoalHead) (b : Bool) → bytes_eq r role ≡ b → atom_number names (Goal r k) ≡ n → AreGoalsFrom names role (n + 1) gs → AreGoalsFrom names role n (if b then record { value = k; atom = n } ∷ gs else gs)
goals-by names role r n k gs true is at h = (omega arith, ap (λ x. atom_number names (Goal x k)) (sym (text-sound r role is)) ∙ at, h)
goals-by names role r n k gs false is at h = earlier names role n (n + 1) gs (omega arith) h

goals-from : (names : NameTable) (role : List ℕ) (n : ℕ) (hs : List Derived) → StandFrom names n hs → AreGoalsFrom names role n (goal_heads role n hs)
goals-from names role n [] stand = tt
goals-from names role n (Role r ∷ hs) stand = earlier names role n (n + 1) _ (omega arith) (goals-from names role (n + 1) hs stand.1)
goals-from names role n (Init t ∷ hs) stand = earlier names role n (n + 1) _ (omega arith) (goals-from names role (n + 1) hs stand.1)
goals-from names role n (Next t ∷ hs) stand = earlier names role n (n + 1) _ (omega arith) (goals-from names role (n + 1) hs stand.1)
goals-from names role n (Legal r m ∷ hs) stand = earlier names role n (n + 1) _ (omega arith) (goals-from names role (n + 1) hs stand.1)
goals-from names role n (Goal r k ∷ hs) stand = goals-by names role r n k _ (bytes_eq r role) refl stand.0 (goals-from names role (n + 1) hs stand.1)
goals-from names role n (Terminal ∷ hs) stand = earlier names role n (n + 1) _ (omega arith) (goals-from names role (n + 1) hs stand.1)
goals-from names role n (Other t ∷ hs) stand = earlier names role n (n + 1) _ (omega arith) (goals-from names role (n + 1) hs stand.1)

kept-by : (names : NameTable) (role : List ℕ) (n : ℕ) (g : GoalHead) (gs : List GoalHead) (b : Bool) → n ≤ g.atom → atom_number names (Goal role g.value) ≡ g.atom → AreGoalsFrom names role (g.atom + 1) gs → AreGoalsFrom names role n (if b then g ∷ gs else gs)
kept-by names role n g gs true le at h = (le, at, h)
kept-by names role n g gs false le at h = earlier names role n (g.atom + 1) gs (omega (arith, le)) h

goals-kept : (names : NameTable) (role : List ℕ) (row : List Bool) (n : ℕ) (gs : List GoalHead) → AreGoalsFrom names role n gs → AreGoalsFrom names role n (filter (λ g. bit row g.atom) gs)
goals-kept names role row n [] h = tt
goals-kept names role row n (g ∷ gs) h = kept-by names role n g (filter (λ x. bit row x.atom) gs) (bit row g.atom) h.0 h.1 (goals-kept names role row (g.atom + 1) gs h.2)

abbrev AreTrue : (Derived → Bool) → List ℕ → List GoalHead → Type 0
AreTrue v role [] = Unit {0}
AreTrue v role (g ∷ gs) = (v (Goal role g.value) ≡ true) × AreTrue v role gs

true-by : (v : Derived → Bool) (role : List ℕ) (g : GoalHead) (gs : List GoalHead) (b : Bool) → v (Goal role g.value) ≡ b → AreTrue v role gs → AreTrue v role (if b then g ∷ gs else gs)
true-by v role g gs true is h = (is, h)
true-by v role g gs false is h = h

kept-true : (names : NameTable) (v : Derived → Bool) (role : List ℕ) (row : List Bool) (n : ℕ) (gs : List GoalHead) → IsByRow names v row → AreGoalsFrom names role n gs → AreTrue v role (filter (λ g. bit row g.atom) gs)
kept-true names v role row n [] by h = tt
kept-true names v role row n (g ∷ gs) by h = true-by v role g (filter (λ x. bit row x.atom) gs) (bit row g.atom) (by (Goal role g.value) ∙ ap (bit row) h.1) (kept-true names v role row (g.atom + 1) gs by h.2)

abbrev IsGoalIn : ℕ → List GoalHead → Type 0
IsGoalIn m [] = ⊥
IsGoalIn m (g ∷ gs) = (g.value ≡ m) ⊎ IsGoalIn m gs

later-kept : (row : List Bool) (m : ℕ) (g : GoalHead) (gs : List GoalHead) (b : Bool) → IsGoalIn m gs → IsGoalIn m (if b then g ∷ gs else gs)
later-kept row m g gs true h = inr h
later-kept row m g gs false h = h

later : (row : List Bool) (m n k : ℕ) (gs : List GoalHead) (b : Bool) → IsGoalIn m (filter (λ g. bit row g.atom) gs) → IsGoalIn m (filter (λ g. bit row g.atom) (if b then record { value = k; atom = n } ∷ gs else gs))
later row m n k gs true h = later-kept row m (record { value = k; atom = n }) (filter (λ g. bit row g.atom) gs) (bit row n) h
later row m n k gs false h = h

here : (row : List Bool) (m n k : ℕ) (gs : List GoalHead) (b : Bool) → b ≡ true → bit row n ≡ true → k ≡ m → IsGoalIn m (filter (λ g. bit row g.atom) (if b then record { value = k; atom = n } ∷ gs else gs))
here row m n k gs true e is same = rw is (inl same)
here row m n k gs false e is same = absurd cc

goal-in-by : (names : NameTable) (role r : List ℕ) (row : List Bool) (m n k : ℕ) (hs : List Derived) (b : Bool) → (bytes_eq role r && nat_eq m k) ≡ b → atom_number names (Goal r k) ≡ n → bit row (atom_number names (Goal role m)) ≡ true
    → (list_any (same_derived (Goal role m)) hs ≡ true → IsGoalIn m (filter (λ g. bit row g.atom) (goal_heads role (n + 1) hs)))
    → (b || list_any (same_derived (Goal role m)) hs) ≡ true → IsGoalIn m (filter (λ g. bit row g.atom) (if bytes_eq r role then record { value = k; atom = n } ∷ goal_heads role (n + 1) hs else goal_heads role (n + 1) hs))
goal-in-by names role r row m n k hs true is at set rest h =
    let same = text-sound role r (and-left (bytes_eq role r) _ is) in
    let value = number-sound m k (and-right (bytes_eq role r) _ is) in
    let same_atom : atom_number names (Goal role m) ≡ n = ap (λ x. atom_number names (Goal x m)) same ∙ ap (λ x. atom_number names (Goal r x)) value ∙ at in
    here row m n k (goal_heads role (n + 1) hs) (bytes_eq r role) (text-same r role (sym same)) (ap (bit row) (sym same_atom) ∙ set) (sym value)
goal-in-by names role r row m n k hs false is at set rest h = later row m n k (goal_heads role (n + 1) hs) (bytes_eq r role) (rest h)

goal-in : (names : NameTable) (role : List ℕ) (row : List Bool) (m n : ℕ) (hs : List Derived) → StandFrom names n hs → bit row (atom_number names (Goal role m)) ≡ true → list_any (same_derived (Goal role m)) hs ≡ true → IsGoalIn m (filter (λ g. bit row g.atom) (goal_heads role n hs))
goal-in names role row m n [] stand set h = absurd cc
goal-in names role row m n (Role r ∷ hs) stand set h = goal-in names role row m (n + 1) hs stand.1 set h
goal-in names role row m n (Init t ∷ hs) stand set h = goal-in names role row m (n + 1) hs stand.1 set h
goal-in names role row m n (Next t ∷ hs) stand set h = goal-in names role row m (n + 1) hs stand.1 set h
goal-in names role row m n (Legal r k ∷ hs) stand set h = goal-in names role row m (n + 1) hs stand.1 set h
goal-in names role row m n (Goal r k ∷ hs) stand set h = goal-in-by names role r row m n k hs (bytes_eq role r && nat_eq m k) refl stand.0 set (goal-in names role row m (n + 1) hs stand.1 set) h
goal-in names role row m n (Terminal ∷ hs) stand set h = goal-in names role row m (n + 1) hs stand.1 set h
goal-in names role row m n (Other t ∷ hs) stand set h = goal-in names role row m (n + 1) hs stand.1 set h

answer : (names : NameTable) (v : Derived → Bool) (role : List ℕ) (n : ℕ) (gs : List GoalHead) → AreGoalsFrom names role n gs → AreTrue v role gs → ((m : ℕ) → v (Goal role m) ≡ true → IsGoalIn m gs) → IsGoalAnswer v role (only gs)
answer names v role n [] from true' all = λ m h. all m h.holds
answer names v role n (g ∷ []) from true' all = record { holds = true'.0; alone = λ m h. elim (all m h) [ inl e ↦ sym e | inr b ↦ absurd b ] }
answer names v role n (g ∷ k ∷ gs) from true' all = λ m h.
    let e = h.alone g.value true'.0 in
    let f = h.alone k.value true'.1.0 in
    let same : atom_number names (Goal role g.value) ≡ atom_number names (Goal role k.value) = ap (λ x. atom_number names (Goal role x)) (e ∙ sym f) in
    omega (arith, same, from.1, from.2.0, from.2.1)

pub goal-answer : (names : NameTable) (v : Derived → Bool) (row : List Bool) (role : List ℕ) → IsByRow names v row → StandFrom names 0 names.heads → ((a : Derived) → v a ≡ true → list_any (same_derived a) names.heads ≡ true)
    → IsGoalAnswer v role (only_goal row (goal_heads role 0 names.heads))
goal-answer names v row role by stand known =
    let gs = goal_heads role 0 names.heads in
    let from = goals-from names role 0 names.heads stand in
    answer names v role 0 (filter (λ g. bit row g.atom) gs) (goals-kept names role row 0 gs from) (kept-true names v role row 0 gs by from)
    (λ m h. goal-in names role row m 0 names.heads stand (sym (by (Goal role m)) ∙ h) (known (Goal role m) h))
