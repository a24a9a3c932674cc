-- Lemmas about tests with && and ||.
use Rattle.std.specs.Prelude.{◌≡◌, Bool, true, false, not, ◌&&◌, ◌||◌, refl}
use Rattle.std.proofs.Common.{sym}

pub and-left : (x y : Bool) → (x && y) ≡ true → x ≡ true
and-left true y e = refl
and-left false y e = e

pub and-right : (x y : Bool) → (x && y) ≡ true → y ≡ true
and-right true y e = e
and-right false y e = absurd cc

pub and-both : (x y : Bool) → x ≡ true → y ≡ true → (x && y) ≡ true
and-both true y e f = f
and-both false y e f = absurd cc

pub or-left : (x y : Bool) → x ≡ true → (x || y) ≡ true
or-left true y e = refl
or-left false y e = absurd cc

pub or-right : (x y : Bool) → y ≡ true → (x || y) ≡ true
or-right true y e = refl
or-right false y e = e

pub or-false-left : (x y : Bool) → (x || y) ≡ false → x ≡ false
or-false-left true y e = e
or-false-left false y e = refl

pub or-false-right : (x y : Bool) → (x || y) ≡ false → y ≡ false
or-false-right true y e = absurd cc
or-false-right false y e = e

pub or-elim : (x y z : Bool) → (x ≡ true → z ≡ true) → (y ≡ true → z ≡ true) → (x || y) ≡ true → z ≡ true
or-elim true y z f g e = f refl
or-elim false y z f g e = g e

pub not-true : (x : Bool) → not x ≡ true → x ≡ false
not-true true e = absurd cc
not-true false e = refl

pub not-false : (x : Bool) → x ≡ false → not x ≡ true
not-false true e = absurd cc
not-false false e = refl

-- two tests that imply each other are equal
pub bool-same : (x y : Bool) → (x ≡ true → y ≡ true) → (y ≡ true → x ≡ true) → x ≡ y
bool-same true y f g = sym (f refl)
bool-same false true f g = g refl
bool-same false false f g = refl
