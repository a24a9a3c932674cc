-- The last rounds of a desk that was not closed.
use Rattle.std.specs.Prelude.{◌≡◌, List}
use Rattle.std.specs.List.{All}
use mathlib.Core.List.{IsPrefix}
use Rattle.call_history.specs.declared.ring_desk.RingCloseFault.{RingCloseFault}
use Rattle.call_history.specs.RingLines.{LineValue, SamePorts}
use Rattle.call_history.specs.RingClosing.{SameEnds, IsCauseOf}
use Rattle.call_history.specs.Rounds.{RingDeskValue, IsIdle}

module _ {O C R : Type 0} where
  -- The last rounds left each line of the desk idle, but the desk was not closed, for this cause.
  pub record WasIdle (desk : RingDeskValue O C R) (ends : List (LineValue C R)) : Type 0 where
    pub last : RingDeskValue O C R
    pub ports : SamePorts desk.ports last.ports
    pub history : IsPrefix desk.journal.history last.journal.history
    pub idle : All IsIdle last.ports
    pub after : RingDeskValue O C R
    pub journal : after.journal ≡ last.journal
    pub left : List (LineValue C R)
    pub ends_are : SameEnds ends left
    pub cause : RingCloseFault
    pub is_cause : IsCauseOf after left cause
