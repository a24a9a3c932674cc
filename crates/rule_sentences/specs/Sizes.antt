-- Size limits of descriptions.
use Rattle.std.specs.Prelude.{ℕ, Bool, true, false, ◌&&◌, nat_le, bytes_eq, List, [], ◌∷◌, ◌++◌, length}
use Rattle.game_core.specs.Limits.{max_sentences, max_atomic_sentences}
use Rattle.game_core.specs.declared.limits.Limits.{Limits}
use Rattle.game_core.specs.Play.{max_roles}
use Rattle.rule_sentences.specs.declared.sentence.Atomic.{Atomic}
use Rattle.rule_sentences.specs.declared.sentence.Atomic.TheVariants.{Derived as IsDerived, InState as IsInState, Does as IsDoes}
use Rattle.numbered_rules.specs.Literals.{Holds, InState, Does, Distinct, Not, Or, End, More}
use Rattle.rule_sentences.specs.Sentences.{TextLiteral, TextLiterals}
use Rattle.rule_sentences.specs.Descriptions.{Description, same_derived, each_once, heads, moves_in, role_names}

-- the largest number of distinct moves in the `legal` heads of one role
abbrev pub max_moves : ℕ
max_moves = 4096

abbrev pub same_atomic : Atomic → Atomic → Bool
same_atomic (IsDerived a) (IsDerived b) = same_derived a b
same_atomic (IsInState t) (IsInState u) = bytes_eq t u
same_atomic (IsDoes r m) (IsDoes q n) = bytes_eq r q && bytes_eq m n
same_atomic a b = false

-- the atomic sentences of a literal; a `distinct` literal has none
abbrev mutual
  pub atomics_in : TextLiteral → List Atomic
  atomics_in (Holds a) = IsDerived a ∷ []
  atomics_in (InState t) = IsInState t ∷ []
  atomics_in (Does r m) = IsDoes r m ∷ []
  atomics_in (Distinct t u) = []
  atomics_in (Not l) = atomics_in l
  atomics_in (Or ls) = all_atomics_in ls

  pub all_atomics_in : TextLiterals → List Atomic
  all_atomics_in End = []
  all_atomics_in (More l ls) = atomics_in l ++ all_atomics_in ls

-- the atomic sentences of all heads and literals
abbrev pub atomics : Description → List Atomic
atomics [] = []
atomics (r ∷ rs) = (IsDerived r.head ∷ all_atomics_in r.body) ++ atomics rs

abbrev pub have_few_moves : List (List ℕ) → Description → Bool
have_few_moves [] d = true
have_few_moves (n ∷ ns) d = nat_le (length (moves_in n (heads d))) max_moves && have_few_moves ns d

-- a description with this number of sentences is within these limits
abbrev pub is_small : Limits → ℕ → Description → Bool
is_small limits sentences d =
    nat_le sentences (max_sentences limits)
    && nat_le (length (each_once same_atomic (atomics d))) (max_atomic_sentences limits)
    && nat_le (length (role_names d)) max_roles
    && have_few_moves (role_names d) d
