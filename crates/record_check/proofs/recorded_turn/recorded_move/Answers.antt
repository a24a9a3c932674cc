use Rattle.std.proofs.Common.{inl, inr, ◌∙◌}
use Rattle.std.proofs.lemmas.Bool.Decides.{Decides-eqb}
use Rattle.std.proofs.lemmas.List.{get_or_read}
use Rattle.std.proofs.lemmas.Slice.Eq.{slice_eq-Decides}
use Rattle.match_book.specs.Judgement.{retired_text}
use Rattle.record_check.proofs.RecordedMoves.{found-place, later-move, denied-move, right-move, unfit-move, right-for, wrong-for, not-empty, is-empty}
use Rattle.record_check.proofs.recorded_turn.recorded_move.Goals as goal
use Rattle.record_check.proofs.recorded_turn.recorded_move.Goals.{then-not-is_empty+else-place-gt0+else-denies_one, else-not-is_empty}

pub returns-then-place-gt0 : goal.returns-then-place-gt0
returns-then-place-gt0 g c =
    let game = g.G.Game.rules c.args.game.now in
    let legal = c.args.moves.now in
    let place = found-place game legal c.args.text.now c.place_of.result c.in-Some.place c.in-Some.is c.place_of.ensures in
    later-move game legal c.args.text.now c.args.error.now c.in-Some.place c.requires.differ place.0 place.1 c.if-place-gt0.true (not-empty c.args.error.now c.if-not-is_empty.ensures)

pub returns-then-denies_one : goal.returns-then-denies_one
returns-then-denies_one g c =
    let game = g.G.Game.rules c.args.game.now in
    let legal = c.args.moves.now in
    let place = found-place game legal c.args.text.now c.place_of.result c.in-Some.place c.in-Some.is c.place_of.ensures in
    denied-move game legal c.args.text.now c.args.error.now c.in-Some.place place.0 place.1 (c.denies_one.ensures.0 c.if-denies_one.true)

pub returns-then-is_retired-eq : goal.returns-then-is_retired-eq
returns-then-is_retired-eq g c =
    let game = g.G.Game.rules c.args.game.now in
    let legal = c.args.moves.now in
    let e = c.args.error.now in
    let place = found-place game legal c.args.text.now c.place_of.result c.in-Some.place c.in-Some.is c.place_of.ensures in
    unfit-move game c.args.is_retired legal c.args.text.now e c.in-Some.place place (wrong-for c.args.is_retired c.eq.result e (slice_eq-Decides Decides-eqb e retired_text c.eq.result c.eq.ensures) c.if-is_retired-eq.true)
    (elim c.if-not-is_empty.branch [
      | then-not-is_empty+else-place-gt0+else-denies_one w ↦
          inr (
            w.if-place-gt0.false,
            λ denies.
                let yes = w.denies_one.ensures.1 denies in
                let no = w.if-denies_one.false in
                absurd cc,
          )
      | else-not-is_empty w ↦ inl (is-empty c.args.error.now w.if-not-is_empty.ensures)
    ])

pub returns : goal.returns
returns g c =
    let game = g.G.Game.rules c.args.game.now in
    let legal = c.args.moves.now in
    let place = found-place game legal c.args.text.now c.place_of.result c.in-Some.place c.in-Some.is c.place_of.ensures in
    let e = c.args.error.now in
    right-move game c.args.is_retired legal c.in_ok-copy_move.field-0 c.args.text.now c.args.error.now c.in-Some.place c.requires.error place
    (c.in_ok-copy_move.ensures ∙ get_or_read legal c.in-Some.place c.index-moves-place.result place.0 c.index-moves-place.is c.in_ok-copy_move.field-0)
    (right-for c.args.is_retired c.eq.result e (slice_eq-Decides Decides-eqb e retired_text c.eq.result c.eq.ensures) c.if-is_retired-eq.false)
    (elim c.if-not-is_empty.branch [
      | then-not-is_empty+else-place-gt0+else-denies_one w ↦
          inr (
            w.if-place-gt0.false,
            λ denies.
                let yes = w.denies_one.ensures.1 denies in
                let no = w.if-denies_one.false in
                absurd cc,
          )
      | else-not-is_empty w ↦ inl (is-empty c.args.error.now w.if-not-is_empty.ensures)
    ])
