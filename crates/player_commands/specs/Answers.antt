-- The parts of a message and its answer that an exchange contains.
use Rattle.std.specs.Prelude.{◌≡◌, ◌↔◌, ℕ, Bool, List, [], IsTrue}
use mathlib.Core.List.{IsPrefix}
use Rattle.desk_calls.specs.declared.answer.Answer.{Answer}
use Rattle.desk_calls.specs.declared.answer.Answer.TheVariants as answers
use Rattle.match_log.specs.ShownTexts.{shown_text}
use Rattle.match_messages.specs.MessageKinds.{kind_word}
use Rattle.match_messages.specs.declared.kind.MessageKind.TheVariants.{Play}
use Rattle.player_commands.specs.declared.watched.AnswerKind.{AnswerKind}
use Rattle.player_commands.specs.declared.watched.AnswerKind.TheVariants.{Text, Silence, Break}

abbrev pub brought_by : Answer → AnswerKind
brought_by (answers.Text text) = Text
brought_by answers.Silent = Silence
brought_by answers.Broken = Break

abbrev pub answer_text : Answer → List ℕ
answer_text (answers.Text text) = text
answer_text answer = []

-- The beginning of a message, the beginning of the answer's text, whether the message asks for a move, and the kind of the answer.
pub record AreOfMessage (message : List ℕ) (is_play : Bool) (answer : List ℕ) (brought : AnswerKind) : Type 0 where
  pub body : List ℕ
  pub given : Answer
  pub message_shown : message ≡ shown_text body
  pub asks : IsTrue is_play ↔ IsPrefix (kind_word Play) body
  pub answer_shown : answer ≡ shown_text (answer_text given)
  pub brings : brought ≡ brought_by given
