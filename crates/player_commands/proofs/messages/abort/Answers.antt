use Rattle.std.proofs.Common.{◌≡◌, ◌+◌, ◌∙◌, ◌&&◌, Bool, true, List, ap, arith, subst, sym, take}
use Rattle.std.proofs.lemmas.List.{take_all}
use Rattle.player_commands.specs.Lines.{TellsAnswers}
use Rattle.player_commands.proofs.ToldPlayers.{told_all, told_next, told_none}
use Rattle.player_commands.proofs.messages.abort.Goals as goal
use Rattle.player_commands.proofs.messages.abort.Goals.{then-have_answered, else-have_answered}

pub loop-player-init : goal.loop-player-init
loop-player-init g c = λ _. told_none _ _

pub loop-player-preserved : goal.loop-player-preserved
loop-player-preserved g c = λ none.
    let answered = c.in-Ok.is_answered in
    let both : c.if-have_answered.have_answered ≡ (c.loop-player.have_answered && answered) = elim c.if-have_answered.branch [
      | then-have_answered w ↦ w.have_answered-is ∙ sym (ap (λ (b : Bool). b && answered) w.if-have_answered.true)
      | else-have_answered w ↦ w.have_answered-is ∙ (w.if-have_answered.false ∙ sym (ap (λ (b : Bool). b && answered) w.if-have_answered.false))
    ] in
    let next = told_next c.args.plan.now.is_json c.args.plan.now.players.items c.loop-player.player-index _ c.loop-player.have_answered answered _ _ _ (rw c.deref-player-items.ensures.value at c.loop-player-test.true) (c.loop-player.invariant none) (rw c.deref-player-items.ensures.value at c.in_ok-write_abort.ensures.told) in
    subst (λ (all : Bool). TellsAnswers c.args.plan.now.is_json (take (c.loop-player.player-index + 1) c.args.plan.now.players.items) all (g.W.Write.contents c.args.writer.now.stream) (g.W.Write.contents c.write_abort.new.writer.stream)) (sym both) next

pub returns-in-None-clause-all : goal.returns-in-None-clause-all
returns-in-None-clause-all g c =
    let each : TellsAnswers c.args.plan.now.is_json c.args.plan.now.players.items true (g.W.Write.contents c.args.writer.now.stream) (g.W.Write.contents c.loop-player.writer.stream) =
    subst (λ (all : Bool). TellsAnswers c.args.plan.now.is_json c.args.plan.now.players.items all (g.W.Write.contents c.args.writer.now.stream) (g.W.Write.contents c.loop-player.writer.stream)) c.if-have_answered-2.true
    (subst (λ (them : List _). TellsAnswers c.args.plan.now.is_json them c.loop-player.have_answered (g.W.Write.contents c.args.writer.now.stream) (g.W.Write.contents c.loop-player.writer.stream))
    (take_all c.loop-player.player-index c.args.plan.now.players.items (omega (arith, rw c.deref-player-items.ensures.value at c.loop-player-test.false))) (c.loop-player.invariant c.in-None.is)) in
    told_all c.args.plan.now.is_json c.args.plan.now.players.items _ _ each
