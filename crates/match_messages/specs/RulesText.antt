-- The text of rules.
use Rattle.std.specs.Prelude.{ℕ, List}
use Rattle.game_core.specs.Expression.{Expressions, list}
use Rattle.game_core.specs.Canonical.{canonical}

-- the sentences, printed as one list
abbrev pub rules_text : Expressions → List ℕ
rules_text sentences = canonical (list sentences)
