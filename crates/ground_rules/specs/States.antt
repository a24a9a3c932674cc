-- A state of a ground game, as contracts see it.
use Rattle.std.specs.Prelude.{Bool, List}

-- a truth value for each term, and for each derived atom that does not depend on moves
pub record StateRows : Type 0 where
  pub row : List Bool
  pub kept : List Bool
