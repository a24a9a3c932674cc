use Rattle.desk_calls.proofs.NamesAreAtoms.{names_are_atoms}
use Rattle.desk_calls.proofs.laws.names_are_atoms.Goals as goal

pub returns : goal.returns
returns c = names_are_atoms
