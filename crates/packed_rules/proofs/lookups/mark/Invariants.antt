use Rattle.std.proofs.Common.{◌≡◌, take, drop}
use Rattle.ground_rules.specs.Numbered.{unset}
use Rattle.ground_rules.specs.Lookups.{marked}
use Rattle.packed_rules.proofs.lookups.mark.Given as goal

abbrev pub invariant-loop-mention : goal.invariant-loop-mention
invariant-loop-mention l = record {
  terms : marked (take l.terms l.bits) (drop l.terms l.truth) (drop l.mention-index l.mentions) ≡ marked (unset l.terms) (drop l.terms l.truth) l.mentions;
  atoms : drop l.terms l.bits ≡ unset l.atoms;
}
