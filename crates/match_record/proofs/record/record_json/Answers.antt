use Rattle.std.proofs.Common.{◌≡◌, ◌++◌, Some, ap, sym, subst, ◌∙◌}
use Rattle.serde_json.specs.Read.{read}
use Rattle.match_book.specs.Lawful.{IsLawfulMatch}
use Rattle.record_reading.specs.LawfulRecord.{IsLawfulRecord}
use Rattle.record_reading.specs.RecordTree.{record_text, record_tree}
use Rattle.match_record.proofs.WrittenRecords.{text_is_json, text_written}
use Rattle.match_record.proofs.record.record_json.Goals as goal

pub returns : goal.returns
returns g c =
    let rules = g.G.Game.rules c.args.game.now in
    let m = c.args.held.now.value in
    let fresh = c.new-out.ensures.tokens in
    let added = c.in_ok-write_record.ensures.written in
    let lawful = subst (λ game. IsLawfulMatch (g.G.Game.rules game) m) c.requires.game c.matches_are_lawful.ensures in
    let json = text_is_json rules c.lawful_parts_have_shape.ensures m c.new-out.result c.write_record.new.out lawful c.requires.setup fresh added c.into_inner.ensures.reads_back c.into_inner.ensures.utf8 in
    let nothing = c.new-out.ensures.before ∙ c.new.ensures.items in
    let text : c.into_inner.result.items ≡ record_text rules m = c.into_inner.ensures.items ∙ text_written rules m c.new-out.result c.write_record.new.out fresh added ∙ ap (λ front. front ++ record_text rules m) nothing in
    record {
      text = text;
      reads_back = subst (λ t. read t ≡ Some (record_tree rules m)) (sym text) json.is_read;
      lawful = subst (λ t. IsLawfulRecord rules t) (sym text) (c.records_are_lawful.ensures (record_text rules m) m lawful c.requires.setup json);
    }
