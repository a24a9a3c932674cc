-- Messages that a player receives.
use Rattle.std.specs.Prelude.{◌≡◌, ℕ, List, ◌++◌, Option, None, option_map, ◌⊎◌}
use Rattle.desk_calls.specs.declared.due.Owed.{Owed}
use Rattle.desk_calls.specs.declared.due.Owed.TheVariants.{Start, Play, Stop, Abort}
use Rattle.desk_calls.specs.declared.answer.Answer.{Answer}
use Rattle.match_messages.specs.BriefValue.{BriefValue}

-- a message that a player received, the seconds that it had for the answer, and the answer
pub record Handed : Type 0 where
  pub seconds : ℕ
  pub body : List ℕ
  pub answer : Answer

-- Between `before` and `after`, the player received these messages. Either the player shows them after the earlier ones, or it ran out of
-- memory for a message and no longer shows any.
abbrev pub MayKeep : Option (List Handed) → Option (List Handed) → List Handed → Type 0
MayKeep before after messages = (after ≡ option_map (λ shown. shown ++ messages) before) ⊎ (after ≡ None)

-- the seconds that a player has for a message: the start clock for START, the play clock for all others
abbrev pub seconds_for : BriefValue → Owed → ℕ
seconds_for brief Start = brief.start
seconds_for brief (Play moves) = brief.play
seconds_for brief (Stop moves) = brief.play
seconds_for brief Abort = brief.play
