-- The decimal text of a clock, as an atom.
use Rattle.std.proofs.Common.{◌≡◌, ℕ, ◌<◌, ◌≤◌, ◌^◌, true, Some, refl, arith}
use Rattle.std.specs.Fmt.{decimal}
use Rattle.std.proofs.lemmas.Bool.Decides.{nat_tests}
use Rattle.game_core.specs.Expression.{IsAtom}
use Rattle.game_core.specs.Laws.{NumbersAreAtoms, NumbersArePlain}
use Rattle.desk_calls.specs.Names.{is_clock, max_clock}
use Rattle.match_messages.specs.Clock.{clock_of}

clock_is_small : (n : ℕ) → is_clock n ≡ true → n < 2 ^ 64
clock_is_small n is = let few : n ≤ max_clock = grind (arith, nat_tests) in omega (arith, few)

pub clock_is_atom : NumbersAreAtoms → (n : ℕ) → is_clock n ≡ true → IsAtom (decimal n)
clock_is_atom atoms n is = atoms n (clock_is_small n is)

pub clock_of-decimal : NumbersArePlain → (n : ℕ) → is_clock n ≡ true → clock_of (decimal n) ≡ Some n
clock_of-decimal plain n is =
    let here = plain n (clock_is_small n is) in
    rw (here.0, here.1, is) refl
