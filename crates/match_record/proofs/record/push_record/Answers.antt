use Rattle.std.proofs.Common.{◌++◌, ap, subst, sym, ◌∙◌}
use Rattle.std.proofs.lemmas.Result.{on_ok_weaker}
use Rattle.json.specs.Print.{print}
use Rattle.match_book.specs.Lawful.{IsLawfulMatch}
use Rattle.record_reading.specs.RecordTree.{record_text}
use Rattle.match_record.proofs.WrittenRecords.{text_is_json, text_written}
use Rattle.match_record.proofs.record.push_record.Goals as goal

pub returns-clause-kept : goal.returns-clause-kept
returns-clause-kept g c =
    let added = print c.write_record-written.new.out.tokens in
    let before = c.write_record-written.ensures.before ∙ c.new-writer.ensures.before ∙ ap (λ v. v.items) c.replace.ensures.value in
    (added, ap (λ front. front ++ added) (sym before) ∙ sym c.into_inner.ensures.items)

pub returns-clause-text : goal.returns-clause-text
returns-clause-text g c =
    let rules = g.G.Game.rules c.args.game.now in
    let m = c.args.held.now.value in
    let there = c.new-writer.ensures.before ∙ ap (λ v. v.items) c.replace.ensures.value in
    on_ok_weaker c.write_record-written.result
    (λ added. c.into_inner.ensures.items ∙ text_written rules m c.new-writer.result c.write_record-written.new.out c.new-writer.ensures.tokens added ∙ ap (λ front. front ++ record_text rules m) there)
    c.write_record-written.ensures.written

pub returns-clause-reads_back : goal.returns-clause-reads_back
returns-clause-reads_back g c =
    let rules = g.G.Game.rules c.args.game.now in
    let m = c.args.held.now.value in
    let lawful = subst (λ game. IsLawfulMatch (g.G.Game.rules game) m) c.requires.game c.matches_are_lawful.ensures in
    on_ok_weaker c.write_record-written.result
    (λ added. (text_is_json rules c.lawful_parts_have_shape.ensures m c.new-writer.result c.write_record-written.new.out lawful c.requires.setup c.new-writer.ensures.tokens added c.into_inner.ensures.reads_back c.into_inner.ensures.utf8).is_read)
    c.write_record-written.ensures.written

pub returns-clause-lawful : goal.returns-clause-lawful
returns-clause-lawful g c =
    let rules = g.G.Game.rules c.args.game.now in
    let m = c.args.held.now.value in
    let lawful = subst (λ game. IsLawfulMatch (g.G.Game.rules game) m) c.requires.game c.matches_are_lawful.ensures in
    on_ok_weaker c.write_record-written.result
    (λ added. c.records_are_lawful.ensures (record_text rules m) m lawful c.requires.setup
    (text_is_json rules c.lawful_parts_have_shape.ensures m c.new-writer.result c.write_record-written.new.out lawful c.requires.setup c.new-writer.ensures.tokens added c.into_inner.ensures.reads_back c.into_inner.ensures.utf8))
    c.write_record-written.ensures.written
