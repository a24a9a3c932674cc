use Rattle.match_messages.proofs.ReadBack.{messages_read_back}
use Rattle.match_messages.proofs.laws.messages_read_back.Goals as goal

pub returns : goal.returns
returns c = messages_read_back c.names_are_atoms.ensures c.numerals_read_back.ensures.atoms c.numerals_read_back.ensures.plain c.canonical_reads_back.ensures
