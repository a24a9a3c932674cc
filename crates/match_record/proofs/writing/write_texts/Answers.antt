use Rattle.std.proofs.Common.{arith, length, refl, subst}
use Rattle.std.proofs.lemmas.Option.{slice_get_read}
use Rattle.serde_json.specs.Data.{string}
use Rattle.match_record.specs.Internal.Written.{IsWritten}
use Rattle.match_record.proofs.WrittenRecords.{one_added, begun_next, all_written}
use Rattle.match_record.proofs.writing.write_texts.Goals as goal

pub loop-text-init : goal.loop-text-init
loop-text-init c = one_added c.in_ok-begin_array.ensures

pub loop-text-preserved : goal.loop-text-preserved
loop-text-preserved c =
    let texts = c.args.texts.now in
    let at = slice_get_read texts (length texts) c.loop-text.text-index c.text-item.result refl c.loop-text-test.true c.text-item.is in
    begun_next string texts c.loop-text.text-index c.text-item.result at c.loop-text.invariant
    (subst (λ text. IsWritten c.loop-text.out c.write_text.new.out (string text)) c.as_slice.ensures c.in_ok-write_text.ensures.written)

pub returns-clause-written : goal.returns-clause-written
returns-clause-written c = all_written string c.args.texts.now c.loop-text.text-index (omega (arith, c.loop-text-test.false)) c.loop-text.invariant (one_added c.in_ok-end_array.ensures)
