use Rattle.std.proofs.Common.{rules}
use Rattle.game_core.proofs.Digits.{next_number, too_great}
use Rattle.game_core.proofs.numeral.number_up_to.Goals as goal

pub returns-then-number-limit : goal.returns-then-number-limit
returns-then-number-limit c =
    let next = next_number c.args.digits.now c.loop-digit.digit-index c.loop-digit.number c.from.result c.requires.digits c.loop-digit-test.true c.loop-digit.invariant.number c.from.ensures in
    too_great c.args.digits.now _ _ c.args.limit next c.if-number-limit.true

pub loop-digit-preserved : goal.loop-digit-preserved
loop-digit-preserved c = record {
  number = next_number c.args.digits.now c.loop-digit.digit-index c.loop-digit.number c.from.result c.requires.digits c.loop-digit-test.true c.loop-digit.invariant.number c.from.ensures;
  small = search rules;
}
