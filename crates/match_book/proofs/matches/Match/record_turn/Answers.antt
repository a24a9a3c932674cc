use Rattle.std.proofs.Common.{arith, sym, length, ap, ◌∙◌, subst, ◌≡◌, ◌<◌, ◌≤◌, List}
use Rattle.std.specs.Prelude.{◌+◌, ◌==◌, All, count_by}
use Rattle.game_core.specs.Play.{IsJoint}
use Rattle.match_book.specs.MatchValue.{is_error}
use Rattle.match_book.specs.Phase.{settled, max_turns}
use Rattle.match_book.specs.LegalMoves.{AreLegalMoves}
use Rattle.match_book.specs.RoleStrikes.{is_retired_in, count_roles}
use Rattle.match_book.specs.declared.retirement.RoleStrikes.{RoleStrikes}
use Rattle.match_book.proofs.StruckTurns.{strikes-few, strikes-pushed}
use Rattle.match_book.proofs.KeptMatches.{turn-joint, next-is_state, one-error, recorded_errors-few, kept-recorded, value-recorded, substituted-few}
use Rattle.match_book.proofs.matches.Match.record_turn.Goals as goal

pub next-requires-clause-joint : goal.next-requires-clause-joint
next-requires-clause-joint g c =
    let rules = g.G.Game.rules c.self.inside.game.value in
    let same = ap (λ p. p.game) c.self.view_is ∙ c.requires.game in
    let playing = c.self.invariant.stage_is ∙ (rw (← c.self.view_is) at c.requires.stage) in
    let turn = rw (← c.self.view_is) at c.in_ok-turn.ensures in
    let joint =
    turn-joint rules (g.met.G.Game.laws c.self.inside.game.value) c.self.invariant playing c.args.role (rw (← c.self.view_is) at c.requires.role) c.args.judged
    (rw (← c.self.view_is) at c.requires.judged) (rw (← c.self.view_is) at c.requires.answers) (rw (← c.self.view_is) at c.requires.last) c.in_ok-turn.turn turn
    in
    subst (λ x. IsJoint (g.G.Game.rules x) c.self.inside.state c.as_slice.result.now) same (subst (λ l. IsJoint rules c.self.inside.state l) (sym c.as_slice.ensures) joint)

pub strikes_after-requires-clause-errors : goal.strikes_after-requires-clause-errors
strikes_after-requires-clause-errors g c =
    let rules = g.G.Game.rules c.self.inside.game.value in
    let playing = c.self.invariant.stage_is ∙ (rw (← c.self.view_is) at c.requires.stage) in
    let turn = rw (← c.self.view_is) at c.in_ok-turn.ensures in
    let one =
    one-error rules (g.met.G.Game.laws c.self.inside.game.value) c.self.invariant playing c.args.role (rw (← c.self.view_is) at c.requires.role) c.args.judged
    (rw (← c.self.view_is) at c.requires.judged) (rw (← c.self.view_is) at c.requires.answers) (rw (← c.self.view_is) at c.requires.last) c.in_ok-turn.turn turn
    in
    rw (c.as_slice-errors.ensures, c.as_slice-2.ensures.value) one

pub strikes_after-requires-clause-few : goal.strikes_after-requires-clause-few
strikes_after-requires-clause-few g c =
    let few =
    strikes-few (g.G.Game.rules c.self.inside.game.value).roles c.self.inside.setup.strikes c.self.inside.turns.items c.self.inside.strikes.items c.self.invariant.strikes_are c.self.invariant.lawful.few_turns
    in
    subst (λ (l : List RoleStrikes). All (λ (s : RoleStrikes). s.in_a_row ≤ max_turns) l) (sym c.as_slice-2.ensures.value) few

pub settle-requires : goal.settle-requires
settle-requires g c =
    let rules = g.G.Game.rules c.self.inside.game.value in
    let same = ap (λ p. p.game) c.self.view_is ∙ c.requires.game in
    let playing = c.self.invariant.stage_is ∙ (rw (← c.self.view_is) at c.requires.stage) in
    let turn = rw (← c.self.view_is) at c.in_ok-turn.ensures in
    let next : c.in_ok-state.state ≡ rules.next c.self.inside.state c.in_ok-turn.turn.moves = cc (c.in_ok-state.ensures, same, c.as_slice.ensures) in
    let is_state =
    next-is_state rules (g.met.G.Game.laws c.self.inside.game.value) c.self.invariant playing c.args.role (rw (← c.self.view_is) at c.requires.role) c.args.judged
    (rw (← c.self.view_is) at c.requires.judged) (rw (← c.self.view_is) at c.requires.answers) (rw (← c.self.view_is) at c.requires.last) c.in_ok-turn.turn turn
    in
    subst (λ x. (g.G.Game.rules x).IsState c.in_ok-state.state) same (subst (λ s. rules.IsState s) (sym next) is_state)

pub overflow_add-self : goal.overflow_add-self
overflow_add-self g c =
    let rules = g.G.Game.rules c.self.inside.game.value in
    let laws = g.met.G.Game.laws c.self.inside.game.value in
    let playing = c.self.invariant.stage_is ∙ (rw (← c.self.view_is) at c.requires.stage) in
    let turn = rw (← c.self.view_is) at c.in_ok-turn.ensures in
    let few = substituted-few rules laws c.self.invariant in
    let more =
    recorded_errors-few rules laws c.self.invariant playing c.args.role (rw (← c.self.view_is) at c.requires.role) c.args.judged
    (rw (← c.self.view_is) at c.requires.judged) (rw (← c.self.view_is) at c.requires.answers) (rw (← c.self.view_is) at c.requires.last) c.in_ok-turn.turn turn
    in
    let errors : c.count_errors-substituted.result ≡ count_by is_error c.in_ok-turn.turn.errors = c.count_errors-substituted.ensures ∙ ap (count_by is_error) c.as_slice-errors.ensures in
    omega (arith, few, more, errors)

pub invariant_of-self-2 : goal.invariant_of-self-2
invariant_of-self-2 g c =
    let rules = g.G.Game.rules c.self.inside.game.value in
    let same = ap (λ p. p.game) c.self.view_is ∙ c.requires.game in
    let playing = c.self.invariant.stage_is ∙ (rw (← c.self.view_is) at c.requires.stage) in
    let turn = rw (← c.self.view_is) at c.in_ok-turn.ensures in
    let errors : c.count_errors-substituted.result ≡ count_by is_error c.in_ok-turn.turn.errors = c.count_errors-substituted.ensures ∙ ap (count_by is_error) c.as_slice-errors.ensures in
    let turns : length c.self.inside.turns.items + 1 ≡ c.len.result + 1 = omega (arith, c.len.ensures, c.self.inside.turns.ok.0) in
    let next : c.in_ok-state.state ≡ rules.next c.self.inside.state c.in_ok-turn.turn.moves = cc (c.in_ok-state.ensures, same, c.as_slice.ensures) in
    let stage : c.in_ok-settlement.settlement.stage ≡ settled rules (length c.self.inside.turns.items + 1) (c.count_retired-retired.result == rules.roles) c.in_ok-state.state = cc (c.in_ok-settlement.ensures.stage, same, turns) in
    let strikes =
    strikes-pushed rules.roles c.self.inside.setup.strikes c.self.inside.turns.items c.in_ok-turn.turn c.self.inside.strikes.items c.in_ok-strikes.strikes.items c.as_slice-2.result.now c.as_slice-errors.result.now c.self.invariant.strikes_are
    c.as_slice-2.ensures.value c.as_slice-errors.ensures c.in_ok-strikes.ensures.one_each c.in_ok-strikes.ensures.each
    in
    let retired : c.count_retired-retired.result ≡ count_roles (length c.in_ok-strikes.strikes.items) (is_retired_in c.in_ok-strikes.strikes.items) =
    c.count_retired-retired.ensures.count ∙ ap (λ (l : List RoleStrikes). count_roles (length l) (is_retired_in l)) c.as_slice-3.ensures.value
    in
    rw (c.in_ok-go_on.ensures.turns, c.in_ok-go_on.ensures.past, c.in_ok-go_on.ensures.present, c.clear.ensures.items, c.self.invariant.lawful.one_open_answer, c.answered_at_first-self-inside.ensures)
    (
    kept-recorded rules (g.met.G.Game.laws c.self.inside.game.value) c.self.invariant playing c.args.role (rw (← c.self.view_is) at c.requires.role) c.args.judged
    (rw (← c.self.view_is) at c.requires.judged) (rw (← c.self.view_is) at c.requires.answers) (rw (← c.self.view_is) at c.requires.last) c.in_ok-turn.turn turn c.in_ok-state.state c.in_ok-settlement.settlement.stage
    c.count_retired-retired.result (c.self.inside.substituted + c.count_errors-substituted.result) c.in_ok-strikes.strikes.items
    c.in_ok-settlement.settlement.legal.items c.in_ok-settlement.settlement.goals.items next strikes retired stage (ap (λ n. c.self.inside.substituted + n) errors)
    (λ playing. subst (λ x. AreLegalMoves (g.G.Game.rules x) c.in_ok-state.state c.in_ok-settlement.settlement.legal.items) (sym same) (c.in_ok-settlement.ensures.legal playing))
    (λ k lt. cc (c.in_ok-settlement.ensures.stage, c.in_ok-settlement.ensures.goals k (subst (λ x. k < (g.G.Game.rules x).roles) same lt), same))
    )

pub returns-clause-ok : goal.returns-clause-ok
returns-clause-ok g c =
    let playing = c.self.invariant.stage_is ∙ (rw (← c.self.view_is) at c.requires.stage) in
    let turn = rw (← c.self.view_is) at c.in_ok-turn.ensures in
    rw (← c.self.view_is, c.in_ok-go_on.ensures.turns, c.clear.ensures.items, c.self.invariant.lawful.one_open_answer, turn)
    (
    value-recorded (g.G.Game.rules c.self.inside.game.value) (g.met.G.Game.laws c.self.inside.game.value) c.self.invariant playing c.args.role (rw (← c.self.view_is) at c.requires.role) c.args.judged
    (rw (← c.self.view_is) at c.requires.judged) (rw (← c.self.view_is) at c.requires.answers) (rw (← c.self.view_is) at c.requires.last)
    )
