use Rattle.std.proofs.Common.{arith, sym, ap, ◌∙◌, subst, Some, ◌≡◌, ◌-◌}
use Rattle.std.specs.Prelude.{All, map}
use Rattle.match_book.proofs.LawfulTurns.{turn-moves, last_move_texts-is, last_move_texts-none}
use Rattle.match_book.proofs.matches.Match.last_move_texts.Goals as goal

pub move_texts-requires : goal.move_texts-requires
move_texts-requires g c =
    let same = ap (λ p. p.game) c.self.view_is ∙ c.requires in
    let moves =
    turn-moves (g.G.Game.rules c.self.inside.game.value) (g.met.G.Game.laws c.self.inside.game.value) c.self.inside.turns.items (c.len-count.result - 1) c.index-turn.result.now c.self.invariant.lawful.turns
    (omega (arith, c.self.inside.turns.ok.0)) c.index-turn.ensures
    in
    subst (λ l. All (λ m. (g.G.Game.rules c.args.game.now).IsMove m) l) (sym c.as_slice.ensures) (subst (λ x. All (λ m. (g.G.Game.rules x).IsMove m) c.index-turn.result.now.moves) same moves)

pub returns-clause-ok : goal.returns-clause-ok
returns-clause-ok g c =
    let same = ap (λ p. p.game) c.self.view_is ∙ c.requires in
    let texts : c.in_ok-move_texts.field-0 ≡ map (g.G.Game.rules c.self.inside.game.value).move_text c.index-turn.result.now.moves = cc (c.in_ok-move_texts.ensures, same, c.as_slice.ensures) in
    rw (← c.self.view_is)
    (
    ap Some texts
    ∙ last_move_texts-is (g.G.Game.rules c.self.inside.game.value) c.self.inside.turns.items (c.len-count.result - 1) c.index-turn.result.now (omega (arith, c.self.inside.turns.ok.0)) (omega (arith, c.self.inside.turns.ok.0)) c.index-turn.ensures
    )

pub returns-then-count-eq0-clause-ok : goal.returns-then-count-eq0-clause-ok
returns-then-count-eq0-clause-ok g c = rw (← c.self.view_is) (last_move_texts-none (g.G.Game.rules c.self.inside.game.value) c.self.inside.turns.items (omega (arith, c.self.inside.turns.ok.0)))
