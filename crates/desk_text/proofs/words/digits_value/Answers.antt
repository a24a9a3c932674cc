use Rattle.desk_text.proofs.Digits.{next_number, too_long}
use Rattle.desk_text.proofs.words.digits_value.Goals as goal

pub returns-then-number-digit : goal.returns-then-number-digit
returns-then-number-digit c =
    let next = next_number c.args.digits.now c.loop-digit.digit-index c.loop-digit.number c.from-digit.result c.requires c.loop-digit-test.true c.loop-digit.invariant c.from-digit.ensures in
    too_long c.args.digits.now c.loop-digit.digit-index c.loop-digit.number c.from-digit.result next c.if-number-digit.true

pub loop-digit-preserved : goal.loop-digit-preserved
loop-digit-preserved c = next_number c.args.digits.now c.loop-digit.digit-index c.loop-digit.number c.from-digit.result c.requires c.loop-digit-test.true c.loop-digit.invariant c.from-digit.ensures
