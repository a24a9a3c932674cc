-- Laws about the fits of a description.
use Rattle.std.specs.Prelude.{ℕ, List}
use Rattle.ground_rules.specs.Acyclic.{IsAcyclic}
use Rattle.rule_sentences.specs.Descriptions.{Description}
use Rattle.ground_rules.specs.Described.{situation}
use Rattle.numbered_rules.specs.Fit.{HasOneFit}

-- an acyclic description has exactly one fit, for each set of terms and each joint move
abbrev pub OneFit : Type 0
OneFit = (d : Description) (terms names moves : List (List ℕ)) → IsAcyclic d → HasOneFit (situation terms names moves) d
