use Rattle.std.proofs.Common.{◌≡◌, ℕ, List, length, Result, Ok, Err, IfOk}
use Rattle.call_history.specs.declared.journal.Entry.{Entry}
use Rattle.call_history.specs.RingClosing.{IsClosed}
use Rattle.call_history.specs.RingLines.{LineValue}
use Rattle.call_history.specs.Rounds.{RingDeskValue}
use Rattle.match_desk.proofs.FollowedHistories.{closed-headline}
use Rattle.match_desk.proofs.closing.close_rings.Goals as goal

one_each : {O C R X U : Type 0} (desk : RingDeskValue O C R) (ends : List (LineValue C R)) (history : X → List (Entry C R)) (object : X → O) (made : X → List ℕ) (r : Result X U)
    → IfOk r (λ c. IsClosed desk ends (history c) (object c) (made c)) → IfOk r (λ c. length (made c) ≡ length desk.ports)
one_each desk ends history object made (Ok c) closed = closed.one_each
one_each desk ends history object made (Err u) closed = tt

pub returns-clause-headline : goal.returns-clause-headline
returns-clause-headline g c =
    closed-headline g.G.Game.rules c.match_laws.ensures (length c.args.desk.ports) (λ x. x.object) (λ x. x.history.items) (λ x. x.made_by_line.items) c.close.result
    c.close.ensures.replay
    (one_each c.args.desk c.args.ends.items (λ x. x.history.items) (λ x. x.object) (λ x. x.made_by_line.items) c.close.result c.close.ensures.closed)
    c.close.ensures.counted
