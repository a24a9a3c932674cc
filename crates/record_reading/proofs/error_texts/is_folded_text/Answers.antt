use Rattle.std.proofs.Common.{◌≡◌, ◌≤◌, None, true≢false, sym, ap, ◌∙◌, arith, length, rules}
use Rattle.std.proofs.lemmas.Bool.Decides.{Decides-eqb}
use Rattle.std.proofs.lemmas.Slice.Eq.{slice_eq-Decides}
use Rattle.kif_text.specs.Reading.{reading}
use Rattle.kif_text.specs.View.{view}
use Rattle.game_core.specs.Canonical.{canonical}
use Rattle.game_core.specs.Expression.{folded}
use Rattle.match_book.specs.AnswerReading.{max_reading}
use Rattle.record_reading.proofs.ErrorWords.{folded_where_printed, unread_is_not_folded}
use Rattle.record_reading.proofs.error_texts.is_folded_text.Goals as goal

pub returns-in_ok-printed-in-Ok : goal.returns-in_ok-printed-in-Ok
returns-in_ok-printed-in-Ok c =
    let short : length c.args.text.now ≤ max_reading = omega arith in
    let is_printed : c.as_slice.result.now ≡ canonical (folded (view c.in-Ok.expr)) = c.as_slice.ensures ∙ c.in_ok-printed-in-Ok.ensures.canonical ∙ ap canonical c.fold.ensures in
    let compared = slice_eq-Decides Decides-eqb c.as_slice.result.now c.args.text.now c.eq.result c.eq.ensures in
    folded_where_printed c.reading_is_proper.ensures c.folded_text_reads_back.ensures c.args.text.now (view c.in-Ok.expr) c.eq.result short c.in-Ok.ensures.found (λ equal. sym is_printed ∙ compared.0 equal, λ same. compared.1 (is_printed ∙ same))

pub returns-in-Err : goal.returns-in-Err
returns-in-Err c =
    let short : length c.args.text.now ≤ max_reading = omega arith in
    let unread : reading c.args.text.now ≡ None = search rules in
    (λ no. absurd (true≢false (sym no)), λ both. absurd (unread_is_not_folded c.folded_text_reads_back.ensures c.args.text.now short unread both.0))
