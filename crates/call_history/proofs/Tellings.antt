-- The shown events grow step by step.
use Rattle.std.proofs.Common.{◌≡◌, List, [], ◌++◌, Option, Some, None, refl, ap, append_assoc, append-nil}
use Rattle.call_history.specs.Told.{told_with}

pub told_with-append : {A : Type 0} (told : Option (List A)) (xs ys : List A) → told_with (told_with told xs) ys ≡ told_with told (xs ++ ys)
told_with-append None xs ys = refl
told_with-append (Some before) xs ys = ap Some (append_assoc before xs ys)

pub told_with-nil : {A : Type 0} (told : Option (List A)) → told_with told [] ≡ told
told_with-nil None = refl
told_with-nil (Some before) = ap Some (append-nil before)

-- these lemmas as a ruleset, so that attributes can name it
pub ruleset told_again = (told_with-append, told_with-nil)
