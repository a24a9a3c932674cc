-- Laws about ids and the names of players.
use Rattle.std.specs.Prelude.{◌≡◌, ℕ, true, List}
use Rattle.game_core.specs.Expression.{IsAtom}
use Rattle.desk_calls.specs.Names.{is_name}

abbrev pub NamesAreAtoms : Type 0
NamesAreAtoms = (w : List ℕ) → is_name w ≡ true → IsAtom w
