-- The bytes in the words and lines of a call log, and splitting a list at the first occurrence of a byte.
use Rattle.std.proofs.Common.{◌≡◌, ◌≢◌, ℕ, zero, suc, ◌+◌, ◌%◌, ◌<◌, ◌≤◌, ◌^◌, ◌==◌, true, nat_le, List, [], ◌∷◌, ◌++◌, refl, ap, ◌∙◌, arith, ne_eqb, eq-eqb, leb-true}
use Rattle.std.specs.Prelude.{slice_index}
use Rattle.std.specs.Fmt.{decimal}
use Rattle.std.specs.List.{AllByRecursion, list_all, slice_split, onto_first}
use Rattle.std.proofs.lemmas.Bool.{and_parts}
use Rattle.std.proofs.lemmas.Fmt.{decimal_by_steps}
use Rattle.std.proofs.lemmas.List.Splits.{slice_split-cons_yes, slice_split-cons_no}

-- ---- bytes of at least this value

abbrev pub AreFrom : ℕ → List ℕ → Type 0
AreFrom least bytes = AllByRecursion (λ byte. least ≤ byte) bytes

pub each_append : {A : Type 0} (P : A → Type 0) (xs ys : List A) → AllByRecursion P xs → AllByRecursion P ys → AllByRecursion P (xs ++ ys)
each_append P [] ys front back = back
each_append P (x ∷ xs) ys front back = (front.0, each_append P xs ys front.1 back)

pub from_lower : (least lower : ℕ) (xs : List ℕ) → lower ≤ least → AreFrom least xs → AreFrom lower xs
from_lower least lower [] below are = tt
from_lower least lower (x ∷ xs) below are = (omega (arith, below, are.0), from_lower least lower xs below are.1)

-- shown by computing the test
pub from_tested : (least : ℕ) (xs : List ℕ) → list_all (λ byte. nat_le least byte) xs ≡ true → AreFrom least xs
from_tested least [] is = tt
from_tested least (x ∷ xs) is =
    let both = and_parts (nat_le least x) (list_all (λ byte. nat_le least byte) xs) is in
    (leb-true least x both.0, from_tested least xs both.1)

pub decimal_from : (n : ℕ) → n < 2 ^ 64 → AreFrom 33 (decimal n)
decimal_from n small = decimal_by_steps (λ _ digits. AreFrom 33 digits) (λ digit below. (omega arith, tt)) (λ m digits some front. each_append _ digits ((48 + m % 10) ∷ []) front (omega arith, tt)) n small

abbrev pub Lacks : ℕ → List ℕ → Type 0
Lacks c bytes = AllByRecursion (λ byte. byte ≢ c) bytes

pub lacks_below : (c least : ℕ) (xs : List ℕ) → c < least → AreFrom least xs → Lacks c xs
lacks_below c least [] below are = tt
lacks_below c least (x ∷ xs) below are = (λ is. omega (arith, below, are.0, is), lacks_below c least xs below are.1)

pub cut_front : (c : ℕ) (xs ys : List ℕ) → Lacks c xs → slice_split (λ b. b == c) (xs ++ c ∷ ys) ≡ xs ∷ slice_split (λ b. b == c) ys
cut_front c [] ys lacks = slice_split-cons_yes (λ b. b == c) c ys (eq-eqb c c refl)
cut_front c (x ∷ xs) ys lacks = slice_split-cons_no (λ b. b == c) x (xs ++ c ∷ ys) (ne_eqb x c lacks.0) ∙ ap (onto_first x) (cut_front c xs ys lacks.1)

pub uncut : (c : ℕ) (xs : List ℕ) → Lacks c xs → slice_split (λ b. b == c) xs ≡ xs ∷ []
uncut c [] lacks = refl
uncut c (x ∷ xs) lacks = slice_split-cons_no (λ b. b == c) x xs (ne_eqb x c lacks.0) ∙ ap (onto_first x) (uncut c xs lacks.1)

pub index_lacks : (c : ℕ) (xs : List ℕ) (k : ℕ) → 0 < c → Lacks c xs → slice_index xs k ≢ c
index_lacks c [] k some lacks is = omega (arith, some, is)
index_lacks c (x ∷ xs) zero some lacks is = lacks.0 is
index_lacks c (x ∷ xs) (suc k) some lacks is = index_lacks c xs k some lacks.1 is
