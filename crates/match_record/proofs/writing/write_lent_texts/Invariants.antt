use Rattle.std.proofs.Common.{map, take}
use Rattle.std.specs.Cow.{cow_slice_items}
use Rattle.serde_json.specs.Data.{string}
use Rattle.match_record.specs.Internal.Written.{HasBegun}
use Rattle.match_record.proofs.writing.write_lent_texts.Given as goal

abbrev pub invariant-loop-text : goal.invariant-loop-text
invariant-loop-text l = HasBegun l.fn.out l.out (map (λ text. string (cow_slice_items text)) (take l.text-index l.texts))
