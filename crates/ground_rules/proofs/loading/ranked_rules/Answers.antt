use Rattle.std.proofs.Common.{◌≡◌, ◌∙◌, ℕ, List, sym, ap, length, refl, inr, subst}
use Rattle.rule_sentences.specs.SentenceViews.{rules_of}
use Rattle.numbered_rules.specs.Numbered.{rules_of as numbered_rules}
use Rattle.numbered_rules.specs.Order.{IsGraph}
use Rattle.ground_rules.specs.Internal.Resolved.{table_of, resolved_rules}
use Rattle.ground_rules.proofs.Numberings.{needs-graph, acyclic-graph}
use Rattle.ground_rules.proofs.RankedRules.{needs-are, acyclic-by, ranked-by}
use Rattle.ground_rules.proofs.loading.ranked_rules.Goals as goal

pub rank-requires : goal.rank-requires
rank-requires c =
    let t = table_of c.args.names.now in
    let d = rules_of c.args.rules.now in
    let same : numbered_rules c.deref.result.now ≡ resolved_rules t d = ap numbered_rules c.deref.ensures.value ∙ c.in_ok-resolved.ensures in
    let are = needs-are t d c.in_ok-needs.needs.items c.len.result (numbered_rules c.deref.result.now) c.len.ensures.len same c.in_ok-needs.ensures.size c.in_ok-needs.ensures.needs in
    subst (λ (xs : List (List ℕ)). IsGraph xs) (sym c.deref-2.ensures.value) (needs-graph c.in_ok-needs.needs.items (length t.heads) (resolved_rules t d) are)

pub returns-in_ok-sort_by_rank-in-Some-clause-acyclic : goal.returns-in_ok-sort_by_rank-in-Some-clause-acyclic
returns-in_ok-sort_by_rank-in-Some-clause-acyclic c =
    let t = table_of c.args.names.now in
    let d = rules_of c.args.rules.now in
    let same : numbered_rules c.deref.result.now ≡ resolved_rules t d = ap numbered_rules c.deref.ensures.value ∙ c.in_ok-resolved.ensures in
    let are = needs-are t d c.in_ok-needs.needs.items c.len.result (numbered_rules c.deref.result.now) c.len.ensures.len same c.in_ok-needs.ensures.size c.in_ok-needs.ensures.needs in
    let found = rw (c.in-Some.is, c.deref-2.ensures.value) at c.in_ok-ranking.ensures.found in
    acyclic-by t d c.in_ok-needs.needs.items c.in-Some.ranking.order.items c.in-Some.ranking.places.items c.requires are found

pub returns-in_ok-sort_by_rank-in-Some-clause-ranked : goal.returns-in_ok-sort_by_rank-in-Some-clause-ranked
returns-in_ok-sort_by_rank-in-Some-clause-ranked c =
    let t = table_of c.args.names.now in
    let d = rules_of c.args.rules.now in
    let same : numbered_rules c.deref.result.now ≡ resolved_rules t d = ap numbered_rules c.deref.ensures.value ∙ c.in_ok-resolved.ensures in
    let are = needs-are t d c.in_ok-needs.needs.items c.len.result (numbered_rules c.deref.result.now) c.len.ensures.len same c.in_ok-needs.ensures.size c.in_ok-needs.ensures.needs in
    let found = rw (c.in-Some.is, c.deref-2.ensures.value) at c.in_ok-ranking.ensures.found in
    let sorted = rw c.deref-in-Some.ensures.value at c.in_ok-sort_by_rank-in-Some.ensures.sorted in
    ranked-by t d c.in_ok-needs.needs.items c.in-Some.ranking.order.items c.in-Some.ranking.places.items c.in_ok-resolved.resolved.items c.in_ok-sort_by_rank-in-Some.field-0.items c.requires are found c.in_ok-resolved.ensures c.in_ok-sort_by_rank-in-Some.ensures.moved sorted

pub returns-in-None-clause-cyclic : goal.returns-in-None-clause-cyclic
returns-in-None-clause-cyclic c =
    let t = table_of c.args.names.now in
    let d = rules_of c.args.rules.now in
    let same : numbered_rules c.deref.result.now ≡ resolved_rules t d = ap numbered_rules c.deref.ensures.value ∙ c.in_ok-resolved.ensures in
    let are = needs-are t d c.in_ok-needs.needs.items c.len.result (numbered_rules c.deref.result.now) c.len.ensures.len same c.in_ok-needs.ensures.size c.in_ok-needs.ensures.needs in
    let none = rw (c.in-None.is, c.deref-2.ensures.value) at c.in_ok-ranking.ensures.none in
    inr (refl, λ acyclic. none (acyclic-graph t d c.in_ok-needs.needs.items are acyclic))
