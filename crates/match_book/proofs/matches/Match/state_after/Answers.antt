use Rattle.std.proofs.Common.{◌≡◌, ◌<◌, sym, subst, take, ◌∙◌, arith, length}
use Rattle.std.proofs.lemmas.Option.{get_or_from_slice_get}
use Rattle.match_book.specs.MatchValue.{state_after}
use Rattle.match_book.proofs.LawfulTurns.{prefix-is_state}
use Rattle.match_book.proofs.matches.Match.state_after.Goals as goal

pub returns-then-turns-len-clause-is_state : goal.returns-then-turns-len-clause-is_state
returns-then-turns-len-clause-is_state g c =
    let rules = g.G.Game.rules c.self.inside.game.value in
    let turns = c.self.inside.turns.items in
    let past = c.self.inside.past.items in
    let le = rw (← c.self.view_is) at c.requires in
    let within : c.args.turns < length turns = omega (arith, c.if-turns-len.true, c.len.ensures, c.self.inside.past.ok.0, c.self.invariant.past_are.one_each) in
    let is : c.index.result.now ≡ state_after rules (take c.args.turns turns) =
    c.index.ensures ∙ get_or_from_slice_get past c.args.turns (state_after rules (take c.args.turns turns)) c.index.result.now (c.self.invariant.past_are.before c.args.turns within) in
    rw (← c.self.view_is) (subst (λ s. rules.IsState s) (sym is) (prefix-is_state rules (g.met.G.Game.laws c.self.inside.game.value) turns c.self.invariant.lawful.turns c.args.turns le))
