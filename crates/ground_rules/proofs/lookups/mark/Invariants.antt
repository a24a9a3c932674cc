use Rattle.std.proofs.Common.{◌≡◌, drop}
use Rattle.numbered_rules.specs.Numbered.{unset}
use Rattle.ground_rules.specs.Lookups.{marked}
use Rattle.ground_rules.proofs.lookups.mark.Given as goal

abbrev pub invariant-loop-mention : goal.invariant-loop-mention
invariant-loop-mention l = marked l.marks l.row (drop l.mention-index l.mentions) ≡ marked (unset l.terms) l.row l.mentions
