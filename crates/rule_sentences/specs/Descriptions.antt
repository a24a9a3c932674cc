-- A description, and the names in its heads.
use Rattle.std.specs.Prelude.{ℕ, Bool, true, false, not, ◌&&◌, ◌||◌, if◌then◌else◌, List, [], ◌∷◌, ◌++◌, map, nat_eq, bytes_eq}
use Rattle.std.specs.List.{list_any}
use Rattle.rule_sentences.specs.declared.sentence.Derived.{Derived}
use Rattle.rule_sentences.specs.declared.sentence.Derived.TheVariants.{Role, Init, Next, Legal, Goal, Terminal, Other}
use Rattle.numbered_rules.specs.Literals.{Rule}

abbrev pub Description : Type 0
Description = List (Rule Derived (List ℕ))

abbrev pub same_derived : Derived → Derived → Bool
same_derived (Role a) (Role b) = bytes_eq a b
same_derived (Init a) (Init b) = bytes_eq a b
same_derived (Next a) (Next b) = bytes_eq a b
same_derived (Legal a m) (Legal b n) = bytes_eq a b && bytes_eq m n
same_derived (Goal a m) (Goal b n) = bytes_eq a b && nat_eq m n
same_derived Terminal Terminal = true
same_derived (Other a) (Other b) = bytes_eq a b
same_derived a b = false

abbrev pub is_among : List (List ℕ) → List ℕ → Bool
is_among [] t = false
is_among (u ∷ us) t = bytes_eq u t || is_among us t

abbrev pub are_different : List (List ℕ) → Bool
are_different [] = true
are_different (x ∷ xs) = not (is_among xs x) && are_different xs

-- the name in a role fact
abbrev pub name_in : Derived → List (List ℕ)
name_in (Role n) = n ∷ []
name_in _ = []

-- the roles, in the order of their facts
abbrev pub role_names : Description → List (List ℕ)
role_names [] = []
role_names (r ∷ rs) = name_in r.head ++ role_names rs

-- the list with x added at its end, unless it has x already
abbrev pub with_new : {A : Type 0} → (A → A → Bool) → List A → A → List A
with_new same seen x = if list_any (same x) seen then seen else seen ++ x ∷ []

-- the list with each new member of the second list added, in order
abbrev pub with_all_new : {A : Type 0} → (A → A → Bool) → List A → List A → List A
with_all_new same seen [] = seen
with_all_new same seen (x ∷ xs) = with_all_new same (with_new same seen x) xs

-- each member once, in the order of first appearance
abbrev pub each_once : {A : Type 0} → (A → A → Bool) → List A → List A
each_once same xs = with_all_new same [] xs

-- the heads, each once, in the order of first appearance
abbrev pub heads : Description → List Derived
heads d = each_once same_derived (map (λ r. r.head) d)

-- the move of a legal head for this role
abbrev pub move_in : List ℕ → Derived → List (List ℕ)
move_in role (Legal r m) = if bytes_eq r role then m ∷ [] else []
move_in role _ = []

-- the moves of the legal heads for this role
abbrev pub moves_in : List ℕ → List Derived → List (List ℕ)
moves_in role [] = []
moves_in role (a ∷ as') = move_in role a ++ moves_in role as'
