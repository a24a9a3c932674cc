use Rattle.game_core.proofs.NumbersReadBack.{numbers_are_atoms, numbers_are_plain, numbers_read_back}
use Rattle.game_core.proofs.laws.numerals_read_back.Goals as goal

pub returns-clause-atoms : goal.returns-clause-atoms
returns-clause-atoms c = numbers_are_atoms

pub returns-clause-plain : goal.returns-clause-plain
returns-clause-plain c = numbers_are_plain

pub returns-clause-read_back : goal.returns-clause-read_back
returns-clause-read_back c = numbers_read_back
