use Rattle.std.proofs.Common.{◌≡◌, map, take}
use Rattle.rule_sentences.specs.SentenceViews.{view}
use Rattle.numbered_rules.specs.Numbered.{view as numbered}
use Rattle.ground_rules.specs.Internal.Resolved.{resolved, table_of}
use Rattle.ground_rules.proofs.resolve.+resolve.Given as goal

abbrev pub invariant-resolve_all-loop-literal : goal.invariant-resolve_all-loop-literal
invariant-resolve_all-loop-literal l = map numbered l.resolved.items ≡ map (λ x. resolved (table_of l.names) (view x)) (take l.literal-index l.literal-items)
