-- The arguments of a relation, by the number of members of the list.
use Rattle.std.proofs.Common.{◌≡◌, ◌≢◌, ◌<◌, List, [], ◌∷◌, length, get_or, None, Some, Option, refl, arith}
use Rattle.game_core.specs.Expression.{Expression}
use Rattle.kif_text.specs.View.{view, views}
use Rattle.kif_text.specs.declared.expr.Expr.{Expr}
use Rattle.rule_sentences.specs.Sentences.{TextLiterals}
use Rattle.rule_sentences.specs.declared.sentence.Atomic.{Atomic}
use Rattle.rule_sentences.specs.Reading.{one_argument, two_arguments, both, sentence, read_atomic, read_literals, read_rule}
use Rattle.rule_sentences.specs.Internal.Members.{without_first}

pub one_argument-none : (xs : List Expr) → length xs ≢ 2 → None ≡ one_argument (views xs)
one_argument-none [] ne = refl
one_argument-none (f ∷ []) ne = refl
one_argument-none (f ∷ x ∷ []) ne = absurd (ne (omega arith))
one_argument-none (f ∷ x ∷ y ∷ xs) ne = refl

pub two_arguments-none : {A : Type 0} (read : Expression → Option A) (xs : List Expr) → length xs ≢ 3 → None ≡ two_arguments read (views xs)
two_arguments-none read [] ne = refl
two_arguments-none read (f ∷ []) ne = refl
two_arguments-none read (f ∷ x ∷ []) ne = refl
two_arguments-none read (f ∷ x ∷ y ∷ []) ne = absurd (ne (omega arith))
two_arguments-none read (f ∷ x ∷ y ∷ z ∷ xs) ne = refl

pub rule-none : (xs : List Expr) → length xs < 2 → None ≡ read_rule (views xs)
rule-none [] lt = refl
rule-none (f ∷ []) lt = refl
rule-none (f ∷ x ∷ xs) lt = absurd (omega arith)

both-some : {A B C : Type 0} (f : A → B → C) (x : A) (y : B) (o : Option A) (p : Option B) → Some x ≡ o → Some y ≡ p → Some (f x y) ≡ both f o p
both-some f x y o p e g = rw (← e, ← g) refl

pub rule-is : (xs : List Expr) (d : Expr) (head : Atomic) (body : TextLiterals) → (length xs < 2 → ⊥) → Some head ≡ read_atomic (view (get_or xs 1 d)) → Some body ≡ read_literals (without_first 2 (views xs)) → Some (sentence head body) ≡ read_rule (views xs)
rule-is [] d head body long e f = absurd (long (omega arith))
rule-is (x ∷ []) d head body long e f = absurd (long (omega arith))
rule-is (x ∷ y ∷ xs) d head body long e f = both-some sentence head body _ _ e f
