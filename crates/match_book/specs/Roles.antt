-- Tests over the roles of a game, numbered from 0, and lists with one place for each role.
use Rattle.std.specs.Prelude.{ℕ, zero, suc, Bool, true, false, if◌then◌else◌, List, [], ◌∷◌, ◌++◌, Option, Some, None, is_some, slice_index_or, replicate}
use Rattle.std.specs.Option.{option_or}

-- all roles below n pass the test
abbrev pub every_role : ℕ → (ℕ → Bool) → Bool
every_role zero p = true
every_role (suc n) p = if p n then every_role n p else false

-- the lowest role below n that passes the test
abbrev pub lowest_role : ℕ → (ℕ → Bool) → Option ℕ
lowest_role zero p = None
lowest_role (suc n) p = option_or (lowest_role n p) (if p n then Some n else None)

-- the values of the roles below n, in the order of the roles
abbrev pub of_each_role : {A : Type 0} → ℕ → (ℕ → A) → List A
of_each_role zero f = []
of_each_role (suc n) f = of_each_role n f ++ f n ∷ []

-- the value at the role's place
abbrev pub at_role : {A : Type 0} → List (Option A) → ℕ → Option A
at_role xs r = slice_index_or xs r None

abbrev pub is_there : {A : Type 0} → List (Option A) → ℕ → Bool
is_there xs r = is_some (at_role xs r)

abbrev pub blank : {A : Type 0} → ℕ → List (Option A)
blank n = replicate n None

-- the values that are present, in order
abbrev pub present : {A : Type 0} → List (Option A) → List A
present [] = []
present (None ∷ xs) = present xs
present (Some x ∷ xs) = x ∷ present xs
