use Rattle.std.proofs.Common.{◌≡◌, ◌+◌, ℕ, Bool, not, cond, ap, sym, ◌∙◌, add-zero, arith}
use Rattle.game_commands.proofs.OpenMatches.{open_before, open_before-next}
use Rattle.game_commands.proofs.replaying.open_matches.Goals as goal
use Rattle.game_commands.proofs.replaying.open_matches.Goals.{then-not-is_last, else-not-is_last}

pub loop-place-preserved : goal.loop-place-preserved
loop-place-preserved g c =
    let found = rw c.unwrap-held.ensures at c.match_at.ensures in
    let step = open_before-next g.G.Game.rules c.args.manager.now c.loop-place.place c.unwrap-held.result.now found in
    let told = rw c.status.ensures at c.is_last.ensures in
    let before = open_before g.G.Game.rules c.args.manager.now c.loop-place.place in
    let with : Bool → ℕ = λ last. before + cond (not last) 1 0 in
    let next : open_before g.G.Game.rules c.args.manager.now (c.loop-place.place + 1) ≡ with c.is_last.result = rw told step in
    elim c.if-not-is_last.branch [
      | then-not-is_last w ↦ record {
        counted = w.count-is ∙ ap (λ n. n + 1) c.loop-place.invariant.counted ∙ sym (next ∙ ap with w.if-not-is_last.true);
        few = omega (arith, w.count-is);
      }
      | else-not-is_last w ↦ record {
        counted = w.count-is ∙ c.loop-place.invariant.counted ∙ sym (next ∙ ap with w.if-not-is_last.false ∙ add-zero before);
        few = omega (arith, w.count-is);
      }
    ]
