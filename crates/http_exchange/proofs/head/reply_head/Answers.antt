use Rattle.std.proofs.Common.{ap, rules, Err}
use Rattle.http_exchange.proofs.Parsed.{bad_status, status_is_good, reply_whole, reply_unfinished, reply_hopeless}
use Rattle.http_exchange.proofs.head.reply_head.Goals as goal

pub returns-in-Ok-Partial : goal.returns-in-Ok-Partial
returns-in-Ok-Partial c =
    reply_unfinished c.args.bytes.now c.front_of-text.result.now c.front_of-text.ensures
    (rw c.in-Ok-Partial.field-0-is at c.in-Ok-Partial.ensures.partial) (rw c.in-Ok-Partial.field-0-is at c.in-Ok-Partial.ensures.unfinished)

pub returns-in-Err : goal.returns-in-Err
returns-in-Err c =
    rw c.part_of.ensures (reply_hopeless c.args.bytes.now c.front_of-text.result.now c.in-Err.error c.front_of-text.ensures c.in-Err.ensures.no_room c.in-Err.ensures.invalid (λ is. c.in-Err.ensures.too_many (ap Err is)))

pub returns-then-head-ne-GOOD_STATUS : goal.returns-then-head-ne-GOOD_STATUS
returns-then-head-ne-GOOD_STATUS c =
    reply_whole c.args.bytes.now c.front_of-text.result.now c.parse_response.new.headers c.in-Ok-Complete.head _ c.front_of-text.ensures (search rules)
    (rw c.in-Ok-Complete.field-0-is at c.in-Ok-Complete.ensures.complete) (bad_status c.in-Ok-Complete.head.code _ c.if-head-ne-GOOD_STATUS.true)

pub returns-else-head-ne-GOOD_STATUS : goal.returns-else-head-ne-GOOD_STATUS
returns-else-head-ne-GOOD_STATUS c =
    reply_whole c.args.bytes.now c.front_of-text.result.now c.parse_response.new.headers c.in-Ok-Complete.head _ c.front_of-text.ensures (search rules)
    (rw c.in-Ok-Complete.field-0-is at c.in-Ok-Complete.ensures.complete)
    (status_is_good c.in-Ok-Complete.head.code c.framed.result _ c.if-head-ne-GOOD_STATUS.false c.framed.ensures)
