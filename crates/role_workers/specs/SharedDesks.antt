-- A desk under a lock.
use Rattle.std.specs.Prelude.{◌≡◌}
use Rattle.call_history.specs.RingLines.{SamePorts}
use Rattle.call_history.specs.Rounds.{RingDeskValue}

-- the desk after some rounds: it has the same lines, and its history has the same opening as before
pub record IsDeskAfter {O C R : Type 0} (opening : O → O) (first last : RingDeskValue O C R) : Type 0 where
  pub ports : SamePorts first.ports last.ports
  pub opening_is : opening last.journal.object ≡ opening first.journal.object
