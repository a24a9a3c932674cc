-- The first word of each kind of message.
use Rattle.std.specs.Prelude.{ℕ, List, codes}
use Rattle.match_messages.specs.declared.kind.MessageKind.{MessageKind}
use Rattle.match_messages.specs.declared.kind.MessageKind.TheVariants.{Info, Start, Play, Stop, Abort}

abbrev pub kind_word : MessageKind → List ℕ
kind_word Info = codes "(INFO"
kind_word Start = codes "(START "
kind_word Play = codes "(PLAY "
kind_word Stop = codes "(STOP "
kind_word Abort = codes "(ABORT "
