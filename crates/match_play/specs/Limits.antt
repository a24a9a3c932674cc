-- The limit on a role's `Next` calls.
use Rattle.std.specs.Prelude.{ℕ}

abbrev pub max_tries : ℕ
max_tries = 1000000000
