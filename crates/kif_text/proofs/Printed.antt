-- The canonical text of a proper expression spells it and nothing else.
use Rattle.std.proofs.Common.{ℕ, List, [], ◌∷◌, ◌++◌, refl, sym, subst, append_assoc}
use Rattle.std.proofs.lemmas.List.{append-nil}
use Rattle.game_core.specs.Bytes.{space, left_parenthesis, right_parenthesis}
use Rattle.game_core.specs.Expression.{Expression, atom, list, Expressions, none, more, HasAtoms, AllHaveAtoms}
use Rattle.game_core.specs.Canonical.{canonical, members, later}
use Rattle.kif_text.specs.Spelling.{EndsAtom, Spells, spells_none, spells_white, spells_atom, spells_list, SpellsText}
use Rattle.kif_text.specs.Laws.{CanonicalSpellsAlone}
use Rattle.kif_text.proofs.SpelledIsRead.{spells_one}

later_ends : (xs : Expressions) → EndsAtom (later xs)
later_ends none = tt
later_ends (more x xs) = refl

mutual
  one_spelled : (x : Expression) (rest : List ℕ) (xs : Expressions) → HasAtoms x → EndsAtom rest → Spells rest xs → Spells (canonical x ++ rest) (more x xs)
  one_spelled (atom w) rest xs h ends k = spells_atom w rest xs h ends k
  one_spelled (list ys) rest xs h ends k =
      subst (λ (t : List ℕ). Spells (left_parenthesis ∷ t) (more (list ys) xs)) (sym (append_assoc (members ys) (right_parenthesis ∷ []) rest)) (spells_list (members ys) rest ys xs (members_spelled ys h) k)

  members_spelled : (xs : Expressions) → AllHaveAtoms xs → Spells (members xs) xs
  members_spelled none h = spells_none
  members_spelled (more x xs) h = one_spelled x (later xs) xs h.0 (later_ends xs) (later_spelled xs h.1)

  later_spelled : (xs : Expressions) → AllHaveAtoms xs → Spells (later xs) xs
  later_spelled none h = spells_none
  later_spelled (more x xs) h = spells_white space (canonical x ++ later xs) (more x xs) refl (one_spelled x (later xs) xs h.0 (later_ends xs) (later_spelled xs h.1))

pub canonical_spelled : (x : Expression) → HasAtoms x → SpellsText (canonical x) (more x none)
canonical_spelled x h =
    (canonical x, [], sym (append-nil (canonical x)), subst (λ (t : List ℕ). Spells t (more x none)) (append-nil (canonical x)) (one_spelled x [] none h tt spells_none), tt)

pub canonical_spells_alone : CanonicalSpellsAlone
canonical_spells_alone x proper =
    let spelled = canonical_spelled x proper.0 in
    record { spelled = spelled; alone = λ xs h. spells_one (canonical x) xs (more x none) h spelled }
