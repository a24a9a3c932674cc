-- The limit on the total length of a player's answers in a match.
use Rattle.std.specs.Prelude.{◌≡◌, ◌⊎◌, ◌+◌, ◌-◌, ◌^◌, ◌≤◌, ℕ, List, length, min}
use Rattle.desk_calls.specs.declared.answer.Answer.{Answer}
use Rattle.desk_calls.specs.declared.answer.Answer.TheVariants.{Text}
use Rattle.network_players.specs.declared.answer_budget.AnswerBudget.{AnswerBudget}

-- what is spent after an answer of this length: the bytes beyond its free part count
abbrev pub spent_after : ℕ → ℕ → ℕ → ℕ
spent_after spent free length = min (2 ^ 64 - 1) (spent + (length - free))

-- An answer of this length counts: either it is free, or at most 1,048,576 bytes are spent, including this answer.
abbrev pub IsPaid : ℕ → ℕ → ℕ → Type 0
IsPaid spent free length = (length ≤ free) ⊎ (spent ≤ 1048576)

-- the budget is large enough for this text, and the bytes of the text are spent
abbrev pub IsPaidBy : AnswerBudget → AnswerBudget → List ℕ → Type 0
IsPaidBy before after text = (after.spent ≡ spent_after before.spent before.free (length text)) × IsPaid after.spent after.free (length text)

abbrev pub IsPaidText : AnswerBudget → AnswerBudget → Answer → Type 0
IsPaidText before after answer = (text : List ℕ) × (answer ≡ Text text) × IsPaidBy before after text
