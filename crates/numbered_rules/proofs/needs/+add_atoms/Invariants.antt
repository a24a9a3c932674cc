use Rattle.std.proofs.Common.{◌≡◌, ◌++◌, drop}
use Rattle.numbered_rules.specs.Numbered.{views}
use Rattle.numbered_rules.specs.Needs.{all_atoms_in}
use Rattle.numbered_rules.proofs.needs.+add_atoms.Given as goal

abbrev pub invariant-add_all_atoms-loop-literal : goal.invariant-add_all_atoms-loop-literal
invariant-add_all_atoms-loop-literal l = l.out.items ++ all_atoms_in l.size (views (drop l.literal-index l.literal-items)) ≡ l.initial.out.items ++ all_atoms_in l.size (views l.literal-items)
