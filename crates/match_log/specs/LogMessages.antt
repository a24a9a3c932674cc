-- What the log contains about a message and its answer.
use Rattle.std.specs.Prelude.{ℕ, List, Option, Some, None, codes}
use Rattle.desk_calls.specs.declared.answer.Answer.{Answer}
use Rattle.desk_calls.specs.declared.answer.Answer.TheVariants.{Text, Silent, Broken}
use Rattle.match_messages.specs.declared.kind.MessageKind.{MessageKind}
use Rattle.match_messages.specs.declared.kind.MessageKind.TheVariants.{Info, Start, Play, Stop, Abort}
use Rattle.network_players.specs.declared.contacting.ContactFault.{ContactFault}
use Rattle.network_players.specs.declared.contacting.ContactFault.TheVariants.{Shortage}

-- the word for the kind of a message
abbrev pub kind_text : Option MessageKind → Option (List ℕ)
kind_text None = None
kind_text (Some Start) = Some (codes "START")
kind_text (Some Play) = Some (codes "PLAY")
kind_text (Some Stop) = Some (codes "STOP")
kind_text (Some Abort) = Some (codes "ABORT")
kind_text (Some Info) = None

abbrev pub answer_text : Answer → Option (List ℕ)
answer_text (Text text) = Some text
answer_text Silent = None
answer_text Broken = None

-- the given word, or `lost` if the referee lacked a resource
abbrev pub unless_short : Option ContactFault → List ℕ → List ℕ
unless_short (Some (Shortage shortage)) word = codes "lost"
unless_short why word = word

abbrev pub error_word : Answer → Option ContactFault → Option (List ℕ)
error_word (Text text) why = None
error_word Silent why = Some (unless_short why (codes "TO"))
error_word Broken why = Some (unless_short why (codes "CE"))
