use Rattle.std.proofs.Common.{arith, ◌∙◌}
use Rattle.match_book.proofs.KeptMatches.{answered-few, kept-open_answer, value-open_answer, last-answer, still-answers}
use Rattle.match_book.proofs.matches.Match.take_open_answer.Goals as goal

pub overflow_add-self-inside : goal.overflow_add-self-inside
overflow_add-self-inside g c =
    let few = answered-few (g.G.Game.rules c.self.inside.game.value) (g.met.G.Game.laws c.self.inside.game.value) c.self.invariant in
    omega (arith, few)

pub invariant_of-self : goal.invariant_of-self
invariant_of-self g c =
    let playing = c.self.invariant.stage_is ∙ (rw (← c.self.view_is) at c.requires.stage) in
    kept-open_answer (g.G.Game.rules c.self.inside.game.value) (g.met.G.Game.laws c.self.inside.game.value) c.self.invariant playing c.args.role (rw (← c.self.view_is) at c.requires.role) c.args.judged
    (rw (← c.self.view_is) at c.requires.judged) (rw (← c.self.view_is) at c.requires.free) (omega (arith, c.self.invariant.lawful.one_open_answer, c.self.inside.open_answers.ok.0))

pub returns-then-self-len-clause-ok : goal.returns-then-self-len-clause-ok
returns-then-self-len-clause-ok g c =
    let playing = c.self.invariant.stage_is ∙ (rw (← c.self.view_is) at c.requires.stage) in
    rw (← c.self.view_is)
    (
    value-open_answer (g.G.Game.rules c.self.inside.game.value) (g.met.G.Game.laws c.self.inside.game.value) c.self.invariant playing c.args.role (rw (← c.self.view_is) at c.requires.role) c.args.judged
    (rw (← c.self.view_is) at c.requires.judged) (rw (← c.self.view_is) at c.requires.free) (omega (arith, c.self.invariant.lawful.one_open_answer, c.self.inside.open_answers.ok.0))
    )

pub record_turn-requires-clause-last : goal.record_turn-requires-clause-last
record_turn-requires-clause-last g c =
    let playing = c.self.invariant.stage_is ∙ (rw (← c.self.view_is) at c.requires.stage) in
    rw (← c.self.view_is)
    (
    last-answer (g.G.Game.rules c.self.inside.game.value) (g.met.G.Game.laws c.self.inside.game.value) c.self.invariant playing c.args.role (rw (← c.self.view_is) at c.requires.role) c.args.judged
    (rw (← c.self.view_is) at c.requires.judged) (rw (← c.self.view_is) at c.requires.free) (omega (arith, c.self.invariant.lawful.one_open_answer, c.self.inside.open_answers.ok.0))
    )

pub record_turn-requires-clause-answers : goal.record_turn-requires-clause-answers
record_turn-requires-clause-answers g c =
    let playing = c.self.invariant.stage_is ∙ (rw (← c.self.view_is) at c.requires.stage) in
    rw (← c.self.view_is)
    (
    still-answers (g.G.Game.rules c.self.inside.game.value) (g.met.G.Game.laws c.self.inside.game.value) c.self.invariant playing c.args.role (rw (← c.self.view_is) at c.requires.role) c.args.judged
    (rw (← c.self.view_is) at c.requires.judged) (rw (← c.self.view_is) at c.requires.free)
    )
