use Rattle.std.proofs.Common.{map, take}
use Rattle.serde_json.specs.Data.{string}
use Rattle.match_record.specs.Internal.Written.{HasBegun}
use Rattle.match_record.proofs.writing.write_texts.Given as goal

abbrev pub invariant-loop-text : goal.invariant-loop-text
invariant-loop-text l = HasBegun l.fn.out l.out (map string (take l.text-index l.texts))
