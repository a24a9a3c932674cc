use Rattle.desk_text.proofs.EntryLines.{entry_is_line}
use Rattle.desk_text.proofs.laws.entries_have_their_form.Goals as goal

pub returns : goal.returns
returns c = entry_is_line
