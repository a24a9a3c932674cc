use Rattle.std.proofs.Common.{List, ℕ, subst, inr}
use Rattle.std.proofs.lemmas.Result.{IfOk-weaker, IfErr-weaker}
use Rattle.http_exchange.specs.Exchange.{WritesText}
use Rattle.http_exchange.proofs.exchanging.exchange_shared.Goals as goal

pub returns-clause-fails : goal.returns-clause-fails
returns-clause-fails g c =
    let sent = subst (λ (text : List ℕ). WritesText g.S.Write.contents c.args.stream.now c.send.new.stream text) c.in_ok-text.ensures c.in_ok-send.ensures.whole in
    IfErr-weaker c.receive.result _ _ (λ fault stops. inr (inr (c.send.new.stream, sent, stops))) c.receive.ensures.fails

pub returns-clause-received : goal.returns-clause-received
returns-clause-received g c =
    let sent = subst (λ (text : List ℕ). WritesText g.S.Write.contents c.args.stream.now c.send.new.stream text) c.in_ok-text.ensures c.in_ok-send.ensures.whole in
    IfErr-weaker c.receive.result _ _ (λ fault told refused. (c.send.new.stream, sent, told refused)) c.receive.ensures.received

pub returns-clause-carries : goal.returns-clause-carries
returns-clause-carries g c =
    let sent = subst (λ (text : List ℕ). WritesText g.S.Write.contents c.args.stream.now c.send.new.stream text) c.in_ok-text.ensures c.in_ok-send.ensures.whole in
    IfOk-weaker c.receive.result _ _ (λ reply takes. (c.send.new.stream, sent, takes)) c.receive.ensures.body
