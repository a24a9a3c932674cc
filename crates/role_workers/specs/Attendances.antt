-- How attending the roles of a match ended.
use Rattle.std.specs.Prelude.{ℕ, Result, Ok, Err}
use Rattle.call_history.specs.declared.wire.Wire as Wire
use Rattle.desk_calls.specs.declared.call.Call.{Call}
use Rattle.desk_calls.specs.declared.call.Reply.{Reply}
use Rattle.match_messages.specs.BriefValue.{BriefValue}
use Rattle.role_workers.specs.declared.attend_fault.AttendFault.{AttendFault}
use Rattle.match_messages.specs.declared.player.Player as Player
use Rattle.role_workers.specs.Events.{Telling, telling}
use Rattle.role_workers.specs.Attending.{Attends, StopsEarly}

-- the worker found the end of the match after sending this many messages, or stopped early with this error
abbrev pub HasEnded : BriefValue → ℕ → ℕ → Telling → Telling → Result ℕ AttendFault → Type 0
HasEnded brief role tries before after (Ok messages) = Attends brief role tries before after messages
HasEnded brief role tries before after (Err fault) = StopsEarly brief role tries before after fault

-- A worker attended the role with this player over this wire, with this result. The wire still belongs to the same line, and the wire and
-- the player show the events of attending.
pub record IsAttended {P W : Type 0} (w : Wire.Ghosts W Call Reply) (p : Player.Ghosts P) (brief : BriefValue) (role tries : ℕ) (player player' : P) (wire wire' : W) (end : Result ℕ AttendFault) : Type 0 where
  pub line : w.same_line wire wire'
  pub ended : HasEnded brief role tries
      (telling (w.calls wire) (w.replies wire) (p.handed player))
      (telling (w.calls wire') (w.replies wire') (p.handed player')) end
