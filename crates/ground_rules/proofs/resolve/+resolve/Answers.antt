use Rattle.std.proofs.Common.{arith, ◌∙◌, ap}
use Rattle.rule_sentences.specs.SentenceViews.{views}
use Rattle.ground_rules.specs.Internal.Resolved.{all_resolved, table_of}
use Rattle.ground_rules.proofs.ResolvedLists.{all-literals}
use Rattle.ground_rules.proofs.resolve.+resolve.Goals as goal

pub resolve_all-returns : goal.resolve_all-returns
resolve_all-returns t c =
    all-literals (table_of c.args.names.now) c.loop-literal.resolved.items c.deref-literal-items.result.now c.loop-literal.literal-index (omega arith) c.loop-literal.invariant
    ∙ ap (λ xs. all_resolved (table_of c.args.names.now) (views xs)) c.deref-literal-items.ensures.value
