use Rattle.std.proofs.Common.{◌∙◌, List, [], false, length, ap, sym, subst}
use Rattle.numbered_rules.specs.declared.numbered.Rule.{Rule as CodeRule}
use Rattle.numbered_rules.specs.Numbered.{rules_of as numbered_rules, numbered, row_after, unset}
use Rattle.numbered_rules.specs.Exposed.{exposed_rules}
use Rattle.ground_rules.specs.Internal.Resolved.{table_of}
use Rattle.ground_rules.specs.Internal.GameParts.{AreRankedOf}
use Rattle.ground_rules.proofs.TwoParts.{split-by}
use Rattle.ground_rules.proofs.loading.split_rules.Goals as goal

pub returns-clause-split : goal.returns-clause-split
returns-clause-split c = λ d table acyclic ranked.
    let t = table_of c.args.names.now in
    let rules = c.args.rules.items in
    let row = c.in_ok-on_moves.on_moves in
    let ranked' : AreRankedOf d t (numbered_rules c.deref-2.result.now) = subst (λ (rs : List CodeRule). AreRankedOf d t (numbered_rules rs)) (sym c.deref-2.ensures.value) ranked in
    let free = (c.in_ok-has_barred_head.ensures d table acyclic ranked').no c.if-branch.false in
    let is = c.in_ok-on_moves.ensures
    ∙ ap (λ n. row_after (numbered [] []) (unset n) (exposed_rules false (numbered_rules c.deref.result.now))) c.len.ensures.len
    ∙ ap (λ (rs : List CodeRule). row_after (numbered [] []) (unset (length t.heads)) (exposed_rules false (numbered_rules rs))) c.deref.ensures.value in
    (free, split-by d t rules c.in_ok-split.field-0.rest.items c.in_ok-split.field-0.turn.items row table acyclic free ranked is c.in_ok-split.ensures.rest c.in_ok-split.ensures.turn)
