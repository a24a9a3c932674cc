-- The tests of names are correct.
use Rattle.std.specs.Prelude.{◌≡◌, ℕ, true, List, refl, nat_eq, bytes_eq}
use Rattle.std.proofs.Common.{ap}
use Rattle.std.proofs.lemmas.Slice.Eq.{bytes_eq-Decides}
use Rattle.std.proofs.lemmas.Bool.Decides.{Decides-eqb}
use Rattle.rule_sentences.specs.declared.sentence.Derived.{Derived}
use Rattle.rule_sentences.specs.declared.sentence.Derived.TheVariants.{Role, Init, Next, Legal, Goal, Terminal, Other}
use Rattle.rule_sentences.specs.Descriptions.{same_derived}
use Rattle.ground_rules.specs.Lawfulness.Bools.{and-left, and-right, and-both}

pub text-sound : (a b : List ℕ) → bytes_eq a b ≡ true → a ≡ b
text-sound a b e = (bytes_eq-Decides a b).0 e

pub text-same : (a b : List ℕ) → a ≡ b → bytes_eq a b ≡ true
text-same a b e = (bytes_eq-Decides a b).1 e

pub number-sound : (a b : ℕ) → nat_eq a b ≡ true → a ≡ b
number-sound a b e = (Decides-eqb a b).0 e

pub number-same : (a b : ℕ) → a ≡ b → nat_eq a b ≡ true
number-same a b e = (Decides-eqb a b).1 e

pub derived-sound : (x y : Derived) → same_derived x y ≡ true → x ≡ y
derived-sound (Role a) (Role b) e = ap Role (text-sound a b e)
derived-sound (Init a) (Init b) e = ap Init (text-sound a b e)
derived-sound (Next a) (Next b) e = ap Next (text-sound a b e)
derived-sound (Legal a m) (Legal b n) e = let f = text-sound a b (and-left (bytes_eq a b) (bytes_eq m n) e) in let g = text-sound m n (and-right (bytes_eq a b) (bytes_eq m n) e) in cc
derived-sound (Goal a m) (Goal b n) e = let f = text-sound a b (and-left (bytes_eq a b) (nat_eq m n) e) in let g = number-sound m n (and-right (bytes_eq a b) (nat_eq m n) e) in cc
derived-sound Terminal Terminal e = refl
derived-sound (Other a) (Other b) e = ap Other (text-sound a b e)
derived-sound x y e = absurd cc

pub derived-same : (x : Derived) → same_derived x x ≡ true
derived-same (Role a) = text-same a a refl
derived-same (Init a) = text-same a a refl
derived-same (Next a) = text-same a a refl
derived-same (Legal a m) = and-both (bytes_eq a a) (bytes_eq m m) (text-same a a refl) (text-same m m refl)
derived-same (Goal a n) = and-both (bytes_eq a a) (nat_eq n n) (text-same a a refl) (number-same n n refl)
derived-same Terminal = refl
derived-same (Other a) = text-same a a refl
