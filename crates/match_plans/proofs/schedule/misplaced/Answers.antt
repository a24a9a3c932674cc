use Rattle.std.proofs.Common.{◌∙◌, ℕ, List, Bor, map, ap, sym, rules}
use Rattle.std.specs.List.{list_any}
use Rattle.std.specs.Str.{bytes_eq}
use Rattle.match_plans.proofs.Placing.{any-map, id-twice, well-placed}
use Rattle.match_plans.proofs.schedule.misplaced.Goals as goal

pub returns-then-contains-clause-fault : goal.returns-then-contains-clause-fault
returns-then-contains-clause-fault c =
    let keys = c.args.ids.now.keys in
    let ids = map (λ (it : Bor (List ℕ)). it.now) keys in
    id-twice c.args.roles ids c.args.plan.now.id.now _ (search rules)
    (ap (λ (it : List ℕ). list_any (bytes_eq it) ids) (sym c.as_bytes-id.ensures.value) ∙ (sym (any-map (λ (it : Bor (List ℕ)). it.now) (bytes_eq c.as_bytes-id.result.now) keys) ∙ (sym c.contains.ensures ∙ c.if-contains.true)))

pub returns-clause-fault : goal.returns-clause-fault
returns-clause-fault c =
    let keys = c.args.ids.now.keys in
    let ids = map (λ (it : Bor (List ℕ)). it.now) keys in
    well-placed c.args.roles ids c.args.plan.now.id.now _ (search rules)
    (ap (λ (it : List ℕ). list_any (bytes_eq it) ids) (sym c.as_bytes-id.ensures.value) ∙ (sym (any-map (λ (it : Bor (List ℕ)). it.now) (bytes_eq c.as_bytes-id.result.now) keys) ∙ (sym c.contains.ensures ∙ c.if-contains.false)))
