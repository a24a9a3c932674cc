use Rattle.std.proofs.Common.{◌≡◌, ◌∙◌, ◌<◌, ◌≤◌, [], List, ℕ, ap, sym, subst, arith, length}
use Rattle.std.specs.Prelude.{All, replicate, slice_index_or, ◌==◌}
use Rattle.match_book.specs.Roles.{every_role}
use Rattle.match_book.specs.RoleStrikes.{after_turn, is_retired_in, unstruck}
use Rattle.match_book.specs.MatchValue.{is_error}
use Rattle.match_book.specs.Phase.{max_turns}
use Rattle.match_book.specs.declared.retirement.RoleStrikes.{RoleStrikes}
use Rattle.record_check.specs.Internal.ReplaySteps.{IsRightJoint, IsTurnFault}
use Rattle.std.proofs.lemmas.Result.{err_from_is_err_and}
use Rattle.record_reading.specs.RecordParts.{IsErrorText}
use Rattle.record_check.specs.Replaying.{ShowsState}
use Rattle.record_reading.specs.declared.record_parts.Key.TheVariants.{Moves, Errors}
use Rattle.record_check.proofs.RecordedMoves.{All-get}
use Rattle.record_check.proofs.Replays.{HasCome, come-start, come-few, come-more, come-fault, come-retired}
use Rattle.record_check.proofs.replaying.replay_turns.Goals as goal

pub loop-turn-init : goal.loop-turn-init
loop-turn-init g c =
    come-start (g.G.Game.rules c.args.game.now) (g.met.G.Game.laws c.args.game.now) c.strikes_follow_turns.ensures.begin c.args.parts.now c.in_ok-state.state c.in_ok-strikes.strikes.items c.in_ok-state.ensures (c.in_ok-strikes.ensures ∙ ap (λ n. replicate n unstruck) c.roles.ensures)

pub replay_turn-requires-clause-moves : goal.replay_turn-requires-clause-moves
replay_turn-requires-clause-moves g c =
    All-get (λ (texts : List (List ℕ)). length texts ≡ (g.G.Game.rules c.args.game.now).roles) c.args.parts.now.moves c.loop-turn.turn c.at-moves.result.now (c.requires.keys Moves).0 c.at-moves.ensures

pub replay_turn-requires-clause-errors : goal.replay_turn-requires-clause-errors
replay_turn-requires-clause-errors g c =
    (All-get (λ (texts : List (List ℕ)). (length texts ≡ (g.G.Game.rules c.args.game.now).roles) × All IsErrorText texts) c.args.parts.now.errors c.loop-turn.turn c.at-errors.result.now (c.requires.keys Errors) c.at-errors.ensures).0

pub replay_turn-requires-clause-error_texts : goal.replay_turn-requires-clause-error_texts
replay_turn-requires-clause-error_texts g c =
    (All-get (λ (texts : List (List ℕ)). (length texts ≡ (g.G.Game.rules c.args.game.now).roles) × All IsErrorText texts) c.args.parts.now.errors c.loop-turn.turn c.at-errors.result.now (c.requires.keys Errors) c.at-errors.ensures).1

pub returns-in_err-state-2 : goal.returns-in_err-state-2
returns-in_err-state-2 g c =
    let game = g.G.Game.rules c.args.game.now in
    let p = c.args.parts.now in
    let shown = c.in_ok-shows_state.ensures.0 c.if-not-branch.false in
    let passed = err_from_is_err_and c.from_residual-in_err-state-2.result c.from_residual-in_err-state-2.ensures.1 in
    rw (passed.1, passed.2)
    (come-fault game p c.loop-turn.turn c.loop-turn.state c.at-moves.result.now c.at-errors.result.now c.loop-turn.strikes.items c.loop-turn.invariant shown c.at-moves.ensures c.at-errors.ensures c.in_err-state-2.field-0.0
    (subst (λ (ks : List RoleStrikes). IsTurnFault game (is_retired_in ks) c.loop-turn.state c.at-moves.result.now c.at-errors.result.now c.loop-turn.turn c.in_err-state-2.field-0.0) c.as_slice.ensures.value c.in_err-state-2.ensures))

pub strikes_after-requires-clause-errors : goal.strikes_after-requires-clause-errors
strikes_after-requires-clause-errors g c =
    let roles = (g.G.Game.rules c.args.game.now).roles in
    let wide = (All-get (λ (texts : List (List ℕ)). (length texts ≡ roles) × All IsErrorText texts) c.args.parts.now.errors c.loop-turn.turn c.at-errors.result.now (c.requires.keys Errors) c.at-errors.ensures).0 in
    wide ∙ sym (ap length c.as_slice-in-loop-turn.ensures.value ∙ c.loop-turn.invariant.strikes.one_each)

pub strikes_after-requires-clause-few : goal.strikes_after-requires-clause-few
strikes_after-requires-clause-few g c =
    let p = c.args.parts.now in
    let lt : c.loop-turn.turn < length p.moves = omega (arith, c.loop-turn-test.true, c.count-turns.ensures) in
    subst (λ (ks : List RoleStrikes). All (λ k. k.in_a_row ≤ max_turns) ks) (sym c.as_slice-in-loop-turn.ensures.value)
    (come-few (g.G.Game.rules c.args.game.now) c.strikes_follow_turns.ensures.few p c.loop-turn.turn c.loop-turn.state c.loop-turn.strikes.items c.loop-turn.invariant lt (c.requires.keys Moves).1)

pub loop-turn-preserved : goal.loop-turn-preserved
loop-turn-preserved g c =
    let game = g.G.Game.rules c.args.game.now in
    let laws = g.met.G.Game.laws c.args.game.now in
    let p = c.args.parts.now in
    let shown = c.in_ok-shows_state.ensures.0 c.if-not-branch.false in
    let wide = (All-get (λ (texts : List (List ℕ)). (length texts ≡ game.roles) × All IsErrorText texts) p.errors c.loop-turn.turn c.at-errors.result.now (c.requires.keys Errors) c.at-errors.ensures).0 in
    let turn = c.in_ok-state-2.ensures in
    come-more game p c.loop-turn.turn c.loop-turn.state c.at-moves.result.now c.at-errors.result.now c.loop-turn.strikes.items c.loop-turn.invariant shown c.at-moves.ensures c.at-errors.ensures laws (c.one_more_turn.ensures c.args.game.now) c.strikes_follow_turns.ensures.more c.in_ok-state-2.state turn.0 c.in_ok-strikes-2.strikes.items wide
    (subst (λ (ks : List RoleStrikes). IsRightJoint game (is_retired_in ks) c.loop-turn.state c.at-moves.result.now c.at-errors.result.now turn.0) c.as_slice.ensures.value turn.1) turn.2
    (c.in_ok-strikes-2.ensures.one_each ∙ ap length c.as_slice-in-loop-turn.ensures.value)
    (subst (λ (ks : List RoleStrikes). (r : ℕ) (d : RoleStrikes) → r < length ks → slice_index_or c.in_ok-strikes-2.strikes.items r d ≡ after_turn p.strikes (slice_index_or ks r unstruck) (is_error (slice_index_or c.at-errors.result.now r []))) c.as_slice-in-loop-turn.ensures.value c.in_ok-strikes-2.ensures.each)

pub returns : goal.returns
returns g c =
    let game = g.G.Game.rules c.args.game.now in
    let p = c.args.parts.now in
    let many : c.count-turns.result ≡ length p.moves = c.count-turns.ensures in
    let all : c.loop-turn.turn ≡ length p.moves = omega (arith, c.loop-turn-test.false, c.loop-turn.auto.turn-end, many) in
    let shown = c.in_ok-shows_state-2.ensures.0 c.if-not-branch-2.false in
    let come : HasCome game p (length p.moves) c.loop-turn.state c.loop-turn.strikes.items = subst (λ n. HasCome game p n c.loop-turn.state c.loop-turn.strikes.items) all c.loop-turn.invariant in (
      record { leads = come.leads; shown = subst (λ n. ShowsState game p n c.loop-turn.state) many shown },
      come-retired game p (length p.moves) c.loop-turn.state c.loop-turn.strikes.items c.count_retired.result come
          (subst (λ (ks : List RoleStrikes). every_role (length ks) (is_retired_in ks) ≡ (c.count_retired.result == length ks)) c.as_slice-2.ensures.value c.count_retired.ensures.all),
      come.is_state,
    )
