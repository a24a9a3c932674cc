use Rattle.std.proofs.Common.{◌≡◌, ◌∙◌, ap, arith, length, subst}
use Rattle.std.specs.Prelude.{IfOk, Some, slice_set}
use Rattle.match_book.specs.Internal.OpenAnswers.{kept_part}
use Rattle.match_book.specs.Steps.{turn_of}
use Rattle.match_book.proofs.KeptMatches.{open_answers-moves, turn-parts}
use Rattle.match_book.proofs.RoleTests.{length-of_each_role}
use Rattle.match_book.proofs.matches.Match.turn_with.Goals as goal

pub parts_of-requires-clause-answers : goal.parts_of-requires-clause-answers
parts_of-requires-clause-answers g c =
    let same = ap (λ p. p.game) c.self.view_is ∙ c.requires.game in
    let playing = c.self.invariant.stage_is ∙ (rw (← c.self.view_is) at c.requires.stage) in
    rw (c.as_slice-answers.ensures.value, ← same) (open_answers-moves (g.G.Game.rules c.self.inside.game.value) (g.met.G.Game.laws c.self.inside.game.value) c.self.invariant playing)

pub index_mut-requires : goal.index_mut-requires
index_mut-requires g c =
    let role = rw (← c.self.view_is) at c.requires.role in
    let is = rw (c.as_slice-answers.ensures.value, c.as_slice-strikes.ensures.value, c.as_slice-legal.ensures.value, c.self.invariant.lawful.one_open_answer) at c.in_ok-parts.ensures in
    let wide = ap length is ∙ length-of_each_role (g.G.Game.rules c.self.inside.game.value).roles (kept_part c.self.inside.open_answers.items c.self.inside.strikes.items c.self.inside.legal.items) in
    omega (arith, wide, role, c.in_ok-parts.parts.ok.0)

pub returns : goal.returns
returns g c =
    let rules = g.G.Game.rules c.self.inside.game.value in
    let playing = c.self.invariant.stage_is ∙ (rw (← c.self.view_is) at c.requires.stage) in
    let is = rw (c.as_slice-answers.ensures.value, c.as_slice-strikes.ensures.value, c.as_slice-legal.ensures.value, c.self.invariant.lawful.one_open_answer) at c.in_ok-parts.ensures in
    let given =
    turn-parts rules (g.met.G.Game.laws c.self.inside.game.value) c.self.invariant playing c.args.role (rw (← c.self.view_is) at c.requires.role) c.args.judged
    (rw (← c.self.view_is) at c.requires.answers) _ (ap (λ l. slice_set l c.args.role (Some c.args.judged)) is)
    in
    rw (← c.self.view_is) (subst (λ l. IfOk c.turn_of.result (λ t. t ≡ turn_of l)) given c.turn_of.ensures)
