use Rattle.std.proofs.Common.{◌≡◌, ◌<◌, length, Some, arith}
use Rattle.std.proofs.lemmas.Bool.Decides.{nat_tests}
use Rattle.rule_sentences.proofs.LiteralLists.{disjunction-is}
use Rattle.rule_sentences.proofs.reading.disjunction.Goals as goal

pub returns : goal.returns
returns c =
    let e : c.args.read ≡ Some c.in_ok-literals.literals = c.in_ok-literals.was in
    let some : 0 < length c.in_ok-literals.literals.items = grind (arith, nat_tests, c.is_empty.ensures, c.if-is_empty.false) in
    rw e (disjunction-is c.in_ok-literals.literals some)
