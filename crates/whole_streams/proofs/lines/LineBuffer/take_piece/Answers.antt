use Rattle.std.proofs.Common.{◌≡◌, ◌≤◌, ◌<◌, ◌+◌, ◌-◌, ◌++◌, length, take, drop, slice_range, sym, ap, subst, ◌∙◌, arith}
use Rattle.std.proofs.lemmas.List.{length-take}
use Rattle.game_core.specs.Bytes.{line_feed}
use Rattle.whole_streams.specs.Lines.{HasNoLineFeed, StopsLine}
use Rattle.whole_streams.proofs.Ranges.{range_front, range_cut, range_cut_at}
use Rattle.whole_streams.proofs.lines.LineBuffer.take_piece.Goals as goal

pub returns-in-Ok-clause-piece : goal.returns-in-Ok-clause-piece
returns-in-Ok-clause-piece c =
    let b = c.self.inside in
    let count = c.in-Some.count in
    let held = slice_range b.chunk b.start b.end in
    let inside : count < length held = c.in-Some.ensures.0 in
    let before : HasNoLineFeed (take count held) = c.in-Some.ensures.1 in
    let fits : b.start + count < b.end = omega (arith, length-take (b.end - b.start) (drop b.start b.chunk)) in
    let grown : c.push_within.new.line.items ≡ c.args.line.now.items ++ take count held =
    c.in-Ok.ensures.grown ∙ ap (λ l. c.args.line.now.items ++ l) (range_front b.chunk b.start count b.end (omega arith)) in
    let cut = sym c.self.view_is ∙ range_cut_at b.chunk b.start count b.end line_feed 0 fits inside c.in-Some.ensures.2 in
    (take count held, grown, before, cut)

pub returns-in-Err-clause-fails : goal.returns-in-Err-clause-fails
returns-in-Err-clause-fails c =
    let b = c.self.inside in
    let count = c.in-Some.count in
    let held = slice_range b.chunk b.start b.end in
    let inside : count < length held = c.in-Some.ensures.0 in
    let before : HasNoLineFeed (take count held) = c.in-Some.ensures.1 in
    let fits : b.start + count ≤ b.end = omega (arith, length-take (b.end - b.start) (drop b.start b.chunk)) in
    let cut = sym c.self.view_is ∙ range_cut b.chunk b.start count b.end fits in
    let stops = subst (λ l. StopsLine c.args.limit c.in-Err.fault (length c.args.line.now.items + length l)) (range_front b.chunk b.start count b.end fits) c.in-Err.ensures.fails in
    (take count held, cut, before, stops)
