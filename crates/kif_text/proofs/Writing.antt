-- The loop that writes the members of a list.
use Rattle.std.proofs.Common.{◌≡◌, ℕ, zero, suc, List, [], ◌∷◌, ◌++◌, append_assoc}
use Rattle.game_core.specs.Bytes.{space}
use Rattle.game_core.specs.Expression.{Expression, Expressions, more}
use Rattle.game_core.specs.Canonical.{canonical, members, later}

-- the text that remains to be written, from member i
abbrev pub from_member : ℕ → Expressions → List ℕ
from_member zero xs = members xs
from_member (suc i) xs = later xs
