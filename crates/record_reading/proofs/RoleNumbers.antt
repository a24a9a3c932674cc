-- The texts that are numbers of roles.
use Rattle.std.proofs.Common.{◌≡◌, ℕ, ◌<◌, ◌≤◌, ◌^◌, Some, None, List, sym, ap, ◌∙◌, arith}
use Rattle.std.specs.Fmt.{decimal}
use Rattle.game_core.specs.Laws.{NumbersReadBack}
use Rattle.game_core.specs.Numerals.{plain_number}

role_read : NumbersReadBack → (ds : List ℕ) (roles r : ℕ) → roles < 2 ^ 32 → Some ds ≡ Some (decimal r) → r < roles → plain_number ds roles ≡ Some r
role_read back ds roles r few is below =
    let same : ds ≡ decimal r = cc in
    (back ds r roles (omega arith)).1 (omega arith, same)

pub role_found : NumbersReadBack → (ds : List ℕ) (roles n : ℕ) → roles < 2 ^ 32 → Some n ≡ plain_number ds roles → Some ds ≡ Some (decimal n)
role_found back ds roles n few is = ap Some ((back ds n roles (omega arith)).0 (sym is)).1

pub role_past : NumbersReadBack → (ds : List ℕ) (roles n : ℕ) → roles < 2 ^ 32 → Some n ≡ plain_number ds roles → roles ≤ n → (r : ℕ) → Some ds ≡ Some (decimal r) → r < roles → ⊥
role_past back ds roles n few is past r same below =
    let both : Some n ≡ Some r = is ∙ role_read back ds roles r few same below in
    let one : n ≡ r = cc in
    omega (arith, one)

pub role_none : NumbersReadBack → (ds : List ℕ) (roles : ℕ) → roles < 2 ^ 32 → None ≡ plain_number ds roles → (r : ℕ) → Some ds ≡ Some (decimal r) → r < roles → ⊥
role_none back ds roles few is r same below =
    let both : None ≡ Some r = is ∙ role_read back ds roles r few same below in
    cc
