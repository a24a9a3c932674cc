use Rattle.std.proofs.Common.{ap, rules, Err}
use Rattle.http_exchange.proofs.Parsed.{bad_method, method_is_post, request_whole, request_unfinished, request_hopeless}
use Rattle.http_exchange.proofs.head.request_head.Goals as goal

pub returns-in-Ok-Partial : goal.returns-in-Ok-Partial
returns-in-Ok-Partial c =
    request_unfinished c.args.bytes.now c.front_of-text.result.now c.front_of-text.ensures
    (rw c.in-Ok-Partial.field-0-is at c.in-Ok-Partial.ensures.partial) (rw c.in-Ok-Partial.field-0-is at c.in-Ok-Partial.ensures.unfinished)

pub returns-in-Err : goal.returns-in-Err
returns-in-Err c =
    rw c.part_of.ensures (request_hopeless c.args.bytes.now c.front_of-text.result.now c.in-Err.error c.front_of-text.ensures c.in-Err.ensures.no_room c.in-Err.ensures.invalid (λ is. c.in-Err.ensures.too_many (ap Err is)))

pub returns-then-ne : goal.returns-then-ne
returns-then-ne c =
    request_whole c.args.bytes.now c.front_of-text.result.now c.parse_request.new.headers c.in-Ok-Complete.head _ c.front_of-text.ensures (search rules)
    (rw c.in-Ok-Complete.field-0-is at c.in-Ok-Complete.ensures.complete) (bad_method c.ne.result c.of.result.now _ _ c.ne.ensures c.of.ensures c.if-ne.true)

pub returns-else-ne : goal.returns-else-ne
returns-else-ne c =
    request_whole c.args.bytes.now c.front_of-text.result.now c.parse_request.new.headers c.in-Ok-Complete.head _ c.front_of-text.ensures (search rules)
    (rw c.in-Ok-Complete.field-0-is at c.in-Ok-Complete.ensures.complete)
    (method_is_post c.ne.result c.of.result.now _ c.framed.result _ c.ne.ensures c.of.ensures c.if-ne.false c.framed.ensures)
