use Rattle.call_history.proofs.ReturnedEnds.{end_with}
use Rattle.call_history.proofs.laws.numbers_are_of_ends.Goals as goal

pub returns : goal.returns
returns g c = λ ends number. end_with ends number
