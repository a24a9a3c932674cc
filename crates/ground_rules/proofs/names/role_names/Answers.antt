use Rattle.std.proofs.Common.{◌≡◌, ◌∙◌, [], ◌∷◌, sym, ap, get_or, bytes_eq, drop, append_assoc, ◌+◌}
use Rattle.std.specs.List.{list_any}
use Rattle.std.specs.Option.{option_copied, option_to_list}
use Rattle.rule_sentences.specs.SentenceViews.{rules_of}
use Rattle.rule_sentences.specs.Descriptions.{role_names, name_in, are_different}
use Rattle.ground_rules.proofs.NameLists.{some-name, repeated, not-repeated, names-at, name-between, no-name-between, new-name, found-by, new-by}
use Rattle.ground_rules.proofs.names.role_names.Goals as goal
use Rattle.ground_rules.proofs.names.role_names.Goals.{in-Some+in_ok-add_text+else-not-branch, in_default}

pub returns-then-not-branch-clause-fault : goal.returns-then-not-branch-clause-fault
returns-then-not-branch-clause-fault c =
    let rules = c.args.rules.now in
    let item = c.rule-item.result in
    let i = c.loop-rule.rule-index in
    let seen = c.loop-rule.names.keys in
    let n = c.in-Some.name.now in
    let here : name_in (get_or rules i item).head ≡ n ∷ [] = ap (λ r. name_in r.head) (sym c.rule-item.is) ∙ sym c.role_name.ensures ∙ ap (λ o. option_to_list (option_copied o)) c.in-Some.is in
    let all = name-between seen (role_names (rules_of rules)) (role_names (rules_of (drop (i + 1) rules))) _ n here (names-at seen (role_names (rules_of rules)) rules i item c.loop-rule-test.true c.loop-rule.invariant.names) in
    let found = found-by (list_any (bytes_eq n) seen) c.in_ok-add_text.field-0 c.in_ok-add_text.ensures.new c.if-not-branch.true in
    λ _ _. (some-name seen n (role_names (rules_of (drop (i + 1) rules))) (role_names (rules_of rules)) all, ap are_different (sym all) ∙ repeated seen (role_names (rules_of (drop (i + 1) rules))) n found)

pub loop-rule-preserved : goal.loop-rule-preserved
loop-rule-preserved c =
    let rules = c.args.rules.now in
    let item = c.rule-item.result in
    let i = c.loop-rule.rule-index in
    let seen = c.loop-rule.names.keys in
    let whole = role_names (rules_of rules) in
    let rest = role_names (rules_of (drop (i + 1) rules)) in
    let step = names-at seen whole rules i item c.loop-rule-test.true c.loop-rule.invariant.names in
    elim c.match-role_name.branch [
      | in-Some+in_ok-add_text+else-not-branch w ↦
          let n = w.in-Some.name.now in
          let here : name_in (get_or rules i item).head ≡ n ∷ [] = ap (λ r. name_in r.head) (sym c.rule-item.is) ∙ sym c.role_name.ensures ∙ ap (λ o. option_to_list (option_copied o)) w.in-Some.is in
          let new = new-by (list_any (bytes_eq n) seen) w.in_ok-add_text.field-0 w.in_ok-add_text.ensures.new w.if-not-branch.false in
          rw (w.names-is, w.in_ok-add_text.ensures.set, new-name seen n new) record {
            names = append_assoc seen (n ∷ []) rest ∙ name-between seen whole rest _ n here step;
            differ = not-repeated seen n c.loop-rule.invariant.differ new;
          }
      | in_default w ↦
          let here : name_in (get_or rules i item).head ≡ [] = ap (λ r. name_in r.head) (sym c.rule-item.is) ∙ sym c.role_name.ensures ∙ ap (λ o. option_to_list (option_copied o)) w.in_default.is in
          rw w.names-is record {
            names = no-name-between seen whole rest _ here step;
            differ = c.loop-rule.invariant.differ;
          }
    ]
