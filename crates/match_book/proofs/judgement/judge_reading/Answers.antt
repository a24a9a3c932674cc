use Rattle.std.proofs.Common.{◌∙◌, length, refl}
use Rattle.std.proofs.lemmas.Option.{slice_get_read}
use Rattle.match_book.proofs.NamedMoves.{place_none, place_some}
use Rattle.match_book.proofs.judgement.judge_reading.Goals as goal

pub returns-in-Some : goal.returns-in-Some
returns-in-Some g c =
    let moves = c.args.moves.now in
    let place = rw (c.in-Some.is, c.as_slice.ensures) at c.place_of.ensures in
    let named = place_some (g.G.Game.rules c.args.game.now) moves c.args.read c.in-Some.place place
    ∙ slice_get_read moves (length moves) c.in-Some.place c.index-moves-place.result refl place.0 c.index-moves-place.is in
    rw named c.take_named.ensures

pub returns-in-None : goal.returns-in-None
returns-in-None g c =
    let place = rw (c.in-None.is, c.as_slice.ensures) at c.place_of.ensures in
    let named = place_none (g.G.Game.rules c.args.game.now) c.args.moves.now c.args.read place in
    rw named c.substitute.ensures
