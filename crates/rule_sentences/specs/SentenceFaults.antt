-- The sentences of a description, and the error of the first expression that is not a sentence.
use Rattle.std.specs.Prelude.{ℕ, ◌≡◌, Bool, List, Option, Some, None, is_none, option_and_then, not, ◌&&◌}
use Rattle.std.specs.List.{filter_map, position_from}
use Rattle.game_core.specs.Expression.{Expression}
use Rattle.rule_sentences.specs.declared.fault.LoadFault.{LoadFault}
use Rattle.rule_sentences.specs.declared.fault.LoadFault.TheVariants.{Variable, BadForm, Misplaced, NoRole, RoleTwice, TooLarge, Cyclic, Depends, Memory}
use Rattle.rule_sentences.specs.Terms.{has_variable}
use Rattle.rule_sentences.specs.Sentences.{TextRule}
use Rattle.rule_sentences.specs.Reading.{read_sentence}
use Rattle.rule_sentences.specs.Places.{place}
use Rattle.rule_sentences.specs.Descriptions.{Description}

-- the index of the first member that passes the test
abbrev pub first_place : {A : Type 0} → (A → Bool) → List A → Option ℕ
first_place test xs = position_from test 0 xs

abbrev pub is_malformed : Expression → Bool
is_malformed x = is_none (read_sentence x)

-- the rule for an expression, if it is a sentence with all its atomic sentences in allowed positions
abbrev pub rule_in : Expression → Option TextRule
rule_in x = option_and_then place (read_sentence x)

abbrev pub is_misplaced : Expression → Bool
is_misplaced x = not (is_malformed x) && is_none (rule_in x)

abbrev pub description_of : List Expression → Description
description_of xs = filter_map rule_in xs

-- each expression is a sentence without variables, with all its atomic sentences in allowed positions
pub record AreSentences (xs : List Expression) : Type 0 where
  pub without_variables : first_place has_variable xs ≡ None
  pub formed : first_place is_malformed xs ≡ None
  pub placed : first_place is_misplaced xs ≡ None

-- the error of expressions that do not satisfy AreSentences
abbrev pub IsSentenceFault : List Expression → LoadFault → Type 0
IsSentenceFault xs (Variable i) = first_place has_variable xs ≡ Some i
IsSentenceFault xs (BadForm i) = (first_place has_variable xs ≡ None) × (first_place is_malformed xs ≡ Some i)
IsSentenceFault xs (Misplaced i) = (first_place has_variable xs ≡ None) × (first_place is_malformed xs ≡ None) × (first_place is_misplaced xs ≡ Some i)
IsSentenceFault xs Memory = Unit {0}
IsSentenceFault xs NoRole = ⊥
IsSentenceFault xs RoleTwice = ⊥
IsSentenceFault xs TooLarge = ⊥
IsSentenceFault xs Cyclic = ⊥
IsSentenceFault xs Depends = ⊥
