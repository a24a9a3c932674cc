use Rattle.std.proofs.Common.{◌≡◌, ◌∙◌, true, [], length, ap, refl}
use Rattle.numbered_rules.specs.Numbered.{rules_of as numbered_rules, numbered, row_after, unset}
use Rattle.ground_rules.specs.Internal.Barred.{has_barred}
use Rattle.numbered_rules.specs.Exposed.{exposed_rules}
use Rattle.ground_rules.specs.Internal.Resolved.{table_of}
use Rattle.ground_rules.proofs.RankedRules.{barred-test}
use Rattle.ground_rules.proofs.loading.has_barred_head.Goals as goal

pub returns : goal.returns
returns c = λ d table acyclic ranked.
    let t = table_of c.args.names.now in
    let rules = numbered_rules c.args.rules.now in
    let on_moves = c.args.on_moves.now in
    let on_given = c.in_ok-on_given.on_given in
    let given = c.in_ok-on_given.ensures ∙ ap (λ n. row_after (numbered [] []) (unset n) (exposed_rules true rules)) c.len.ensures.len in
    let tells : c.has_barred.result ≡ has_barred on_moves on_given 0 t.heads = c.has_barred.ensures ∙ ap (has_barred on_moves on_given 0) c.as_slice.ensures.keys in
    barred-test d t rules (length t.heads) on_moves on_given c.has_barred.result table acyclic ranked refl c.requires given tells
