use Rattle.std.proofs.Common.{◌≡◌, length, ◌∙◌, arith}
use Rattle.packed_rules.specs.Bits.{bits_of}
use Rattle.packed_rules.proofs.PackedPasses.{only-tests-in, tests-cut}
use Rattle.packed_rules.proofs.passing.sweep_table.Goals as goal

pub sweep_tests-requires-clause-cut : goal.sweep_tests-requires-clause-cut
sweep_tests-requires-clause-cut c =
    let t = c.args.table.now in
    rw (c.deref.ensures.value, c.deref-then-len-eq0-2.ensures.value) (tests-cut t.rules.items t.tests.items t.moves.items t.others.items c.requires.cut)

pub returns-then-len-eq0-2 : goal.returns-then-len-eq0-2
returns-then-len-eq0-2 c =
    let t = c.args.table.now in
    let moves : length t.moves.items ≡ 0 = omega (arith, c.len.ensures, t.moves.ok.0, c.if-len-eq0.true) in
    let others : length t.others.items ≡ 0 = omega (arith, c.len-then-len-eq0.ensures, t.others.ok.0, c.if-len-eq0-2.true) in
    rw (c.deref.ensures.value, c.deref-then-len-eq0-2.ensures.value) at c.sweep_tests.ensures
    ∙ only-tests-in c.args.terms c.args.joint.now (bits_of c.args.words.now c.args.size) t.rules.items t.tests.items t.moves.items t.others.items moves others
