use Rattle.std.proofs.Common.{◌≡◌, length, arith, ap, subst}
use Rattle.packed_rules.specs.PackedGames.{tables_of}
use Rattle.match_play.proofs.LongestMoves.{IsLongestOf, longest_of_all}
use Rattle.match_play.proofs.playable_game.longest_move.Goals as goal

pub returns : goal.returns
returns c =
    let texts : c.move_texts-texts.result.now ≡ (tables_of c.args.game.now).moves = c.move_texts-texts.ensures in
    let all : length (tables_of c.args.game.now).moves ≡ c.loop-text.text-index = omega (arith, c.loop-text-test.false, c.loop-text.auto.text-index-end, ap length texts) in
    longest_of_all (tables_of c.args.game.now) c.loop-text.text-index c.loop-text.longest all (subst (λ moves. IsLongestOf moves c.loop-text.text-index c.loop-text.longest) texts c.loop-text.invariant)
