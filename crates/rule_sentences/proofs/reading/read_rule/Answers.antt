use Rattle.std.proofs.Common.{◌≡◌, ◌∙◌, sym, ap, arith, Some, option_map, get_or}
use Rattle.kif_text.specs.View.{view as expression, views as expressions}
use Rattle.rule_sentences.specs.SentenceViews.{views}
use Rattle.rule_sentences.specs.Reading.{read_atomic, read_literals}
use Rattle.rule_sentences.specs.Internal.Members.{without_first}
use Rattle.rule_sentences.proofs.Arguments.{rule-none, rule-is}
use Rattle.rule_sentences.proofs.reading.read_rule.Goals as goal

pub returns-then-len-lt2 : goal.returns-then-len-lt2
returns-then-len-lt2 c = rule-none c.args.members.now.items (omega arith)

pub returns : goal.returns
returns c =
    let xs = c.args.members.now.items in
    let head : Some c.in-Some.head ≡ read_atomic (expression (get_or xs 1 c.index.result.now)) = sym c.in-Some.is ∙ c.in_ok-head.ensures ∙ ap (λ x. read_atomic (expression x)) c.index.ensures in
    let body : Some (views c.in-Some-2.body.items) ≡ read_literals (without_first 2 (expressions xs)) = sym (ap (option_map (λ v. views v.items)) c.in-Some-2.is) ∙ c.in_ok-body.ensures in
    rule-is xs c.index.result.now c.in-Some.head (views c.in-Some-2.body.items) (λ lt. omega arith) head body
