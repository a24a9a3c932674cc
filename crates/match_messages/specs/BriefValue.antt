-- The data of a match that its players get, as a plain value.
use Rattle.std.specs.Prelude.{ℕ, List}
use Rattle.kif_text.specs.View.{views}
use Rattle.match_messages.specs.RulesText.{rules_text}
use Rattle.match_messages.specs.declared.brief.Brief.{Brief}

-- the match's id, the names of its roles, the text of its rules, and both clocks
pub record BriefValue : Type 0 where
  pub id : List ℕ
  pub roles : List (List ℕ)
  pub rules : List ℕ
  pub start : ℕ
  pub play : ℕ

abbrev pub brief_value : Brief → BriefValue
brief_value b = record { id = b.id; roles = b.roles; rules = rules_text (views b.rules.items); start = b.start; play = b.play }
