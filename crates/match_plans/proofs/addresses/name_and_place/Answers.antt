use Rattle.std.proofs.Common.{arith}
use Rattle.std.proofs.lemmas.Str.Pattern.{split_once_first}
use Rattle.match_plans.proofs.Words.{cut-at-first}
use Rattle.match_plans.proofs.addresses.name_and_place.Goals as goal

pub returns : goal.returns
returns c = cut-at-first c.args.word.now c.split_once.result (split_once_first 64 c.args.word.now c.split_once.result c.split_once.ensures.cases (omega arith))
