-- The text of the rules in START.
use Rattle.std.specs.Prelude.{ℕ, List}
use Rattle.kif_text.specs.View.{views}
use Rattle.match_messages.specs.RulesText.{rules_text}
use Rattle.match_messages.specs.declared.start_rules.StartRules.{StartRules}
use Rattle.match_messages.specs.declared.start_rules.StartRules.TheVariants.{Sentences, Printed}

abbrev pub start_rules_text : StartRules → List ℕ
start_rules_text (Sentences sentences) = rules_text (views sentences.now)
start_rules_text (Printed printed) = printed.now
