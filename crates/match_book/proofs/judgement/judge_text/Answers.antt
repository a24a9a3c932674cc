use Rattle.std.proofs.Common.{length, refl}
use Rattle.std.proofs.lemmas.Option.{slice_get_read}
use Rattle.match_book.proofs.NamedMoves.{named_as_it_stands}
use Rattle.match_book.proofs.judgement.judge_text.Goals as goal

pub returns-in-Some : goal.returns-in-Some
returns-in-Some g c =
    let moves = c.args.moves.now in
    let place = rw c.in-Some.is at c.place_of.ensures in
    let at = slice_get_read moves (length moves) c.in-Some.place c.index-moves-place.result refl place.0 c.index-moves-place.is in
    let counts = named_as_it_stands (g.G.Game.rules c.args.game.now) (g.met.G.Game.laws c.args.game.now) c.folded_text_reads_back.ensures moves c.args.answered.now c.in-Some.place c.index-moves-place.result c.requires c.if-answered-le-MAX_ANSWER.true place at in
    rw (← counts) c.take_named.ensures
