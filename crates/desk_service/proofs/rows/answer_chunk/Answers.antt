use Rattle.std.proofs.Common.{rules, ◌≡◌, ◌≢◌, ◌++◌, ◌∷◌, ap, subst, sym, ◌∙◌}
use Rattle.std.specs.Str.Lines.{strip_carriage_return}
use Rattle.std.proofs.lemmas.List.Elements.{All-append}
use Rattle.game_core.specs.Bytes.{line_feed}
use Rattle.call_history.specs.History.{EndsLegalHistory}
use Rattle.whole_streams.specs.Lines.{HasNoLineFeed}
use Rattle.desk_service.specs.Rows.{Answered, AnswersRow, IsPartialRow}
use Rattle.desk_service.proofs.AnsweredRows.{chunk_ends, empty_row, none_answered, one_more_answered}
use Rattle.desk_service.proofs.rows.answer_chunk.Goals as goal

pub loop-piece-init : goal.loop-piece-init
loop-piece-init g c =
    let legal = EndsLegalHistory g.O.Object.reply g.O.Object.after g.O.Object.opening in
    let line = c.args.line.now in
    let given = c.args.row.now.items ++ c.args.chunk.now in
    record { answered = subst (λ text. Answered legal line line given text given) (sym c.requires.empty) (none_answered legal line given); partial = c.requires.partial }

pub loop-piece-preserved : goal.loop-piece-preserved
loop-piece-preserved g c =
    let legal = EndsLegalHistory g.O.Object.reply g.O.Object.after g.O.Object.opening in
    let given = c.args.row.now.items ++ c.args.chunk.now in
    let row = c.loop-piece.row.items in
    let rest = c.loop-piece.rest.now in
    let piece = c.in-Some.piece.now in
    let more = c.in-Some.more.now in
    let grown = c.grow_row.new.row.items in
    let text = c.loop-piece.out.items in
    let text' = c.answer_row.new.out.items in
    let last = c.loop-piece.line in
    let line' = c.answer_row.new.line in
    let inv = c.loop-piece.invariant in
    let cut : rest ≡ piece ++ line_feed ∷ more = search rules in
    let feedless : HasNoLineFeed piece = search rules in
    let is : grown ≡ row ++ piece = c.in_ok-grow_row.ensures.grown in
    let whole : HasNoLineFeed grown = subst HasNoLineFeed (sym is) (All-append (λ b. b ≢ line_feed) row piece inv.partial.1 feedless) in
    let asked : c.without_return.result.now ≡ strip_carriage_return grown = c.without_return.ensures ∙ ap strip_carriage_return c.deref.ensures.value in
    let answer : AnswersRow legal last line' (strip_carriage_return grown) text text' = subst (λ asked. AnswersRow legal last line' asked text text') asked c.in_ok-answer_row.ensures.answer in
    let after = one_more_answered c.lines_are_taken.ensures.next legal c.args.line.now last line' given text text' row rest piece more grown inv.answered cut is whole c.answer_row.ensures.number answer in
    let none = c.clear.ensures.items in
    record {
      answered = subst (λ l. Answered legal c.args.line.now line' given text' (l ++ more)) (sym none) after;
      partial = subst IsPartialRow (sym none) empty_row;
    }

pub returns : goal.returns
returns g c =
    let row = c.loop-piece.row.items in
    let rest = c.loop-piece.rest.now in
    let line = c.loop-piece.line in
    let inv = c.loop-piece.invariant in
    let feedless : HasNoLineFeed rest = search rules in
    let ends = c.grow_row-2.ensures in (
      row ++ rest,
      line,
      inv.answered,
      chunk_ends c.grow_row-2.result row rest c.grow_row-2.new.row.items line ends.grown ends.within ends.stopped inv.partial.1 feedless,
    )
