-- Lists in which numbers replace names.
use Rattle.std.proofs.Common.{◌≡◌, ◌≤◌, ℕ, List, [], ◌∷◌, map, take, length, refl, ap, ◌∙◌}
use Rattle.std.proofs.lemmas.List.{take_all}
use Rattle.rule_sentences.specs.declared.sentence.Literal.{Literal as CodeLiteral}
use Rattle.rule_sentences.specs.declared.sentence.Rule.{Rule as CodeRule}
use Rattle.numbered_rules.specs.declared.numbered.Literal.{Literal as NumberedLiteral}
use Rattle.numbered_rules.specs.declared.numbered.Rule.{Rule as NumberedRule}
use Rattle.numbered_rules.specs.Literals.{literals, More}
use Rattle.rule_sentences.specs.SentenceViews.{view, views, rule_of, rules_of}
use Rattle.numbered_rules.specs.Numbered.{view as numbered, views as all_numbered, rule_of as numbered_rule, rules_of as numbered_rules}
use Rattle.ground_rules.specs.Internal.Resolved.{NameTable, resolved, all_resolved, resolved_rule, resolved_rules}

resolved-list : (names : NameTable) (xs : List CodeLiteral) → literals (map (λ x. resolved names (view x)) xs) ≡ all_resolved names (views xs)
resolved-list names [] = refl
resolved-list names (x ∷ xs) = ap (More (resolved names (view x))) (resolved-list names xs)

pub all-literals : (names : NameTable) (rs : List NumberedLiteral) (xs : List CodeLiteral) (i : ℕ) → length xs ≤ i → map numbered rs ≡ map (λ x. resolved names (view x)) (take i xs) → all_numbered rs ≡ all_resolved names (views xs)
all-literals names rs xs i le e = ap literals (e ∙ ap (map (λ x. resolved names (view x))) (take_all i xs le)) ∙ resolved-list names xs

resolved-rules : (names : NameTable) (rs : List CodeRule) → map (λ r. resolved_rule names (rule_of r)) rs ≡ resolved_rules names (rules_of rs)
resolved-rules names [] = refl
resolved-rules names (r ∷ rs) = ap (λ xs. resolved_rule names (rule_of r) ∷ xs) (resolved-rules names rs)

pub all-rules : (names : NameTable) (ns : List NumberedRule) (rs : List CodeRule) (i : ℕ) → length rs ≤ i → map numbered_rule ns ≡ map (λ r. resolved_rule names (rule_of r)) (take i rs) → numbered_rules ns ≡ resolved_rules names (rules_of rs)
all-rules names ns rs i le e = e ∙ ap (map (λ r. resolved_rule names (rule_of r))) (take_all i rs le) ∙ resolved-rules names rs
