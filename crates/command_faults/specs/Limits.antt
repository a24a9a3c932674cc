-- Limits on the size of inputs.
use Rattle.std.specs.Prelude.{ℕ, Option, Some, None}
use Rattle.game_core.specs.Limits.{max_bytes}
use Rattle.game_core.specs.declared.limits.Limits.{Limits}
use Rattle.game_core.specs.declared.limits.Limits.TheVariants.{Usual, Large}

abbrev pub max_line : ℕ
max_line = 68719476736

-- the largest number of bytes of a description with `--large`, or None if the limits are already those of `--large`
abbrev pub max_bytes_with_large : Limits → Option ℕ
max_bytes_with_large Usual = Some (max_bytes Large)
max_bytes_with_large Large = None
