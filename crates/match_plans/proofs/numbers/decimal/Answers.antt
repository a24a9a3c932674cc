use Rattle.std.proofs.Common.{◌≡◌, true, arith, rules}
use Rattle.game_core.specs.Numerals.{are_digits}
use Rattle.match_plans.proofs.Decimals.{number-refused}
use Rattle.match_plans.proofs.numbers.decimal.Goals as goal

pub returns-in_default-clause-value : goal.returns-in_default-clause-value
returns-in_default-clause-value c =
    let digits : are_digits c.args.text.now ≡ true = search rules in
    number-refused c.args.text.now c.args.limit c.in_default.field-0 c.parse.result c.parse.ensures.value.0 c.in_default.is digits (omega arith)
