use Rattle.match_messages.proofs.FirstWords.{no_kind, not_begun}
use Rattle.match_messages.proofs.kind.MessageKind.of.Goals as goal

pub returns : goal.returns
returns c =
    no_kind c.args.message.now (not_begun _ _ c.begins_with.ensures c.if-begins_with.false) (not_begun _ _ c.begins_with-2.ensures c.if-begins_with-2.false) (not_begun _ _ c.begins_with-3.ensures c.if-begins_with-3.false)
    (not_begun _ _ c.begins_with-4.ensures c.if-begins_with-4.false) (not_begun _ _ c.begins_with-5.ensures c.if-begins_with-5.false)
