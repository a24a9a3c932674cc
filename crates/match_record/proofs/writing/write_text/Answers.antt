use Rattle.std.proofs.lemmas.Str.{IsUtf8-from_ascii}
use Rattle.match_record.proofs.writing.write_text.Goals as goal

pub from_utf8_unchecked-text-requires : goal.from_utf8_unchecked-text-requires
from_utf8_unchecked-text-requires c = IsUtf8-from_ascii c.args.text.now c.requires
