use Rattle.std.proofs.Common.{◌<◌, ◌∙◌, [], ap, arith, length, refl, subst, sym}
use Rattle.std.specs.Str.{IsAscii}
use Rattle.std.proofs.lemmas.List.{get_or-map, length-map}
use Rattle.std.proofs.lemmas.Option.{slice_get_read, get_or_from_slice_get}
use Rattle.std.specs.Cow.{cow_slice_items}
use Rattle.serde_json.specs.Data.{string}
use Rattle.match_record.specs.Internal.Written.{IsWritten}
use Rattle.record_reading.specs.RecordTree.{list_tree}
use Rattle.match_record.proofs.RecordLists.{map_twice}
use Rattle.match_record.proofs.WrittenRecords.{one_added, begun_next, all_written}
use Rattle.match_record.proofs.writing.write_lent_texts.Goals as goal

pub loop-text-init : goal.loop-text-init
loop-text-init c = one_added c.in_ok-begin_array.ensures

pub write_text-requires : goal.write_text-requires
write_text-requires c =
    let texts = c.args.texts.now in
    let i = c.loop-text.text-index in
    let within : i < length texts = c.loop-text-test.true in
    let at = slice_get_read texts (length texts) i c.text-item.result refl within c.text-item.is in
    let here = c.requires i [] (omega (arith, within, length-map texts cow_slice_items)) in
    subst IsAscii (get_or-map cow_slice_items texts i c.text-item.result [] within ∙ ap cow_slice_items (get_or_from_slice_get texts i c.text-item.result c.text-item.result at) ∙ sym c.as_slice.ensures.value) here

pub loop-text-preserved : goal.loop-text-preserved
loop-text-preserved c =
    let texts = c.args.texts.now in
    let at = slice_get_read texts (length texts) c.loop-text.text-index c.text-item.result refl c.loop-text-test.true c.text-item.is in
    begun_next (λ text. string (cow_slice_items text)) texts c.loop-text.text-index c.text-item.result at c.loop-text.invariant
    (subst (λ text. IsWritten c.loop-text.out c.write_text.new.out (string text)) c.as_slice.ensures.value c.in_ok-write_text.ensures.written)

pub returns-clause-written : goal.returns-clause-written
returns-clause-written c =
    let texts = c.args.texts.now in
    let all = all_written (λ text. string (cow_slice_items text)) texts c.loop-text.text-index (omega (arith, c.loop-text-test.false)) c.loop-text.invariant (one_added c.in_ok-end_array.ensures) in
    subst (λ members. IsWritten c.args.out.now c.end_array.new.self (list_tree members)) (map_twice string cow_slice_items texts) all
