use Rattle.match_book.proofs.KeptMatches.{kept-new_match}
use Rattle.match_book.proofs.matches.Match.new.Goals as goal

pub invariant_of-result : goal.invariant_of-result
invariant_of-result g c =
    let kept = kept-new_match (g.G.Game.rules c.args.game.now) (g.met.G.Game.laws c.args.game.now) c.args.setup c.requires in
    rw (c.of.ensures, c.in_ok-start_marks.ensures, c.in_ok-open_answers.ensures, c.in_ok-end_marks.ensures, c.in_ok-strikes.ensures, c.new.ensures.items, c.in_ok-state.ensures, c.new-2.ensures.items, c.new-3.ensures.items, c.new-4.ensures.items, c.roles-roles.ensures) kept
