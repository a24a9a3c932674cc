use Rattle.call_history.proofs.ServedLines.{idle_after}
use Rattle.call_history.proofs.ring_desk.RingDesk.round.Goals as goal

pub returns-clause-idle : goal.returns-clause-idle
returns-clause-idle g c = idle_after _ _ _ _ _ _ _ _ c.serve_round.ensures.same.count c.serve_round.ensures.gains c.serve_round.ensures.visits
