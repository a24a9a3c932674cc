use Rattle.std.proofs.Common.{subst, sym}
use Rattle.http_exchange.specs.HttpHead.{HeadIs}
use Rattle.http_exchange.specs.declared.head.HttpKind.{HttpKind}
use Rattle.http_exchange.proofs.head.head_at.Goals as goal

pub returns-in-Reply : goal.returns-in-Reply
returns-in-Reply c = subst (λ (k : HttpKind). HeadIs k c.args.bytes.now c.reply_head.result) (sym c.in-Reply.is) c.reply_head.ensures

pub returns-in-Request : goal.returns-in-Request
returns-in-Request c = subst (λ (k : HttpKind). HeadIs k c.args.bytes.now c.request_head.result) (sym c.in-Request.is) c.request_head.ensures
