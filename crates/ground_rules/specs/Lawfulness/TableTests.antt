-- The tests of a game's tables that imply the laws of the game: terms differ, goals are in range, texts are in byte order.
use Rattle.std.specs.Prelude.{ℕ, Bool, true, false, not, ◌&&◌, ◌||◌, List, [], ◌∷◌, map, nat_lt, nat_le, nat_eq}
use Rattle.game_core.specs.Play.{max_goal}
use Rattle.ground_rules.specs.declared.tables.Mention.{Mention}
use Rattle.ground_rules.specs.declared.tables.GoalHead.{GoalHead}
use Rattle.ground_rules.specs.Roles.{RoleTable}

abbrev pub has_term : ℕ → List Mention → Bool
has_term t [] = false
has_term t (h ∷ hs) = nat_eq t h.term || has_term t hs

-- the terms of the heads are different and below the number of terms
abbrev pub have_distinct_terms : ℕ → List Mention → Bool
have_distinct_terms terms [] = true
have_distinct_terms terms (h ∷ hs) = nat_lt h.term terms && (not (has_term h.term hs) && have_distinct_terms terms hs)

abbrev pub are_goals : List GoalHead → Bool
are_goals [] = true
are_goals (h ∷ hs) = nat_le h.value max_goal && are_goals hs

abbrev pub are_roles : ℕ → List RoleTable → Bool
are_roles terms [] = true
are_roles terms (r ∷ rs) = have_distinct_terms terms r.legal && (are_goals r.goals && are_roles terms rs)

abbrev pub names : List RoleTable → List (List ℕ)
names rs = map (λ r. r.name) rs

abbrev pub comes_before : List ℕ → List ℕ → Bool
comes_before [] [] = false
comes_before [] (b ∷ bs) = true
comes_before (a ∷ as') [] = false
comes_before (a ∷ as') (b ∷ bs) = nat_lt a b || (nat_eq a b && comes_before as' bs)

abbrev pub comes_before_all : List ℕ → List (List ℕ) → Bool
comes_before_all t [] = true
comes_before_all t (u ∷ us) = comes_before t u && comes_before_all t us

abbrev pub are_in_order : List (List ℕ) → Bool
are_in_order [] = true
are_in_order (t ∷ ts) = comes_before_all t ts && are_in_order ts
