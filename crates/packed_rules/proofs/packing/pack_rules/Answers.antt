use Rattle.std.proofs.Common.{◌≡◌, length, ◌∙◌}
use Rattle.packed_rules.proofs.PackedPasses.{table-next, table-cut}
use Rattle.packed_rules.proofs.packing.pack_rules.Goals as goal

pub loop-rule-preserved : goal.loop-rule-preserved
loop-rule-preserved c =
    let p = c.in_ok-packed.packed in
    let l = c.loop-rule in
    let tests : c.len.result ≡ length p.tests.items = c.len.ensures ∙ p.tests.ok.0 in
    let moves : c.len-in-loop-rule.result ≡ length p.moves.items = c.len-in-loop-rule.ensures ∙ p.moves.ok.0 in
    let others : c.len-in-loop-rule-2.result ≡ length p.others.items = c.len-in-loop-rule-2.ensures ∙ p.others.ok.0 in
    record {
      cut = table-cut p _ _ _ l.sizes.items _ l.tests.items _ l.moves.items _ l.others.items _ tests moves others c.in_ok-push.ensures.items c.in_ok-append.ensures c.in_ok-append-2.ensures c.in_ok-append-3.ensures l.invariant.cut;
      packed = table-next c.args.terms c.args.rules.now l.rule-index c.rule-item.result p _ _ _ l.sizes.items _ l.tests.items _ l.moves.items _ l.others.items _ c.loop-rule-test.true c.rule-item.is c.in_ok-packed.ensures tests moves others c.in_ok-push.ensures.items c.in_ok-append.ensures c.in_ok-append-2.ensures c.in_ok-append-3.ensures l.invariant.cut l.invariant.packed;
    }
