use Rattle.std.proofs.Common.{◌<◌, ◌≤◌, ◌++◌, length, take, rules, arith, length-append, length-take-le}
use Rattle.std.proofs.KnownBytes.{Consumes-trans}
use Rattle.whole_streams.proofs.whole.read_to_end.Goals as goal

pub returns-then-count-limit-clause-fails : goal.returns-then-count-limit-clause-fails
returns-then-count-limit-clause-fails g c =
    let more = take c.in-Ok.count c.read.new.buffer in
    let count = length-take-le c.in-Ok.count c.read.new.buffer c.in-Ok.ensures.bound.0 in
    let long : c.args.limit < length (c.loop-call.input.items ++ more) = omega (arith, length-append c.loop-call.input.items more, count) in
    (c.loop-call.input.items ++ more, Consumes-trans _ _ _ _ _ c.loop-call.invariant.given c.in-Ok.ensures.bytes.0, search rules)

pub returns-then-is_err-clause-fails : goal.returns-then-is_err-clause-fails
returns-then-is_err-clause-fails g c =
    let more = take c.in-Ok.count c.read.new.buffer in
    let count = length-take-le c.in-Ok.count c.read.new.buffer c.in-Ok.ensures.bound.0 in
    let within : length (c.loop-call.input.items ++ more) ≤ c.args.limit = omega (arith, length-append c.loop-call.input.items more, count) in
    (c.loop-call.input.items ++ more, Consumes-trans _ _ _ _ _ c.loop-call.invariant.given c.in-Ok.ensures.bytes.0, search rules)
