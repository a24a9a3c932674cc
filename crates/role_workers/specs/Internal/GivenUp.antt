-- Roles that no thread attends.
use Rattle.std.specs.Prelude.{◌≡◌, ℕ, List, [], ◌∷◌, ◌++◌, map, Option, Some, None}
use Rattle.std.specs.List.{flat_map}
use Rattle.call_history.specs.declared.wire.Wire as Wire
use Rattle.desk_calls.specs.declared.answer.Answer.TheVariants.{Broken}
use Rattle.desk_calls.specs.declared.call.Call.{Call}
use Rattle.desk_calls.specs.declared.call.Call.TheVariants.{Abort}
use Rattle.desk_calls.specs.declared.call.Reply.{Reply}
use Rattle.match_messages.specs.BriefValue.{BriefValue}
use Rattle.role_workers.specs.Events.{Event, makes, takes, telling, Tells}
use Rattle.role_workers.specs.Steps.{answer_call, asking}
use Rattle.role_workers.specs.RoleCalls.{due_round}
use Rattle.role_workers.specs.declared.seats.Unattended.{Unattended}

-- if a message is due, a broken connection is reported for its round, and this reply comes
abbrev pub answering : BriefValue → ℕ → Option ℕ → Reply → List Event
answering brief role None reply = []
answering brief role (Some round) reply = makes (answer_call brief.id role round Broken) ∷ takes reply ∷ []

-- a role that is given up, with the replies to the three calls that give it up; the last call is made only if a message is due
pub record GivenUp : Type 0 where
  pub of : Unattended
  pub aborted : Reply
  pub due : Reply
  pub answered : Reply

-- the match is aborted, and the desk is asked what it owes to the role
abbrev pub aborting : GivenUp → List Event
aborting it = makes (Abort it.of.brief.now.id) ∷ takes it.aborted ∷ asking it.of.brief.now it.of.role it.due

-- the match is aborted, the desk is asked, and a message that is due is answered
abbrev pub giving_up : GivenUp → List Event
giving_up it = aborting it ++ answering it.of.brief.now it.of.role (due_round it.due) it.answered

pub record AreGivenUp {W : Type 0} (w : Wire.Ghosts W Call Reply) (roles : List Unattended) (wire wire' : W) : Type 0 where
  pub given : List GivenUp
  pub in_order : map (λ it. it.of) given ≡ roles
  pub told : Tells (telling (w.calls wire) (w.replies wire) None) (telling (w.calls wire') (w.replies wire') None) (flat_map giving_up given)
