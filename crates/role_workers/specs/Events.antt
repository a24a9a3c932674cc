-- The events between a worker, its wire and its player, and the ones that the wire and the player show.
use Rattle.std.specs.Prelude.{◌≡◌, List, Option, Some, None}
use Rattle.std.specs.List.{filter_map}
use Rattle.call_history.specs.Told.{told_with}
use Rattle.desk_calls.specs.declared.call.Call.{Call}
use Rattle.desk_calls.specs.declared.call.Reply.{Reply}
use Rattle.match_messages.specs.Handing.{Handed, MayKeep}

-- the worker makes a call over the wire, takes a reply, or sends a message to the player, which answers it
pub data Event : Type 0 where
  makes : (call : Call) → Event
  takes : (reply : Reply) → Event
  hands : (message : Handed) → Event

abbrev pub call_in : Event → Option Call
call_in (makes call) = Some call
call_in (takes reply) = None
call_in (hands message) = None

abbrev pub reply_in : Event → Option Reply
reply_in (makes call) = None
reply_in (takes reply) = Some reply
reply_in (hands message) = None

abbrev pub message_in : Event → Option Handed
message_in (makes call) = None
message_in (takes reply) = None
message_in (hands message) = Some message

-- The events that a wire and a player show: the calls, the replies and the messages, each in order. Any of these may be
-- hidden.
pub record Telling : Type 0 where
  pub calls : Option (List Call)
  pub replies : Option (List Reply)
  pub messages : Option (List Handed)

abbrev pub telling : Option (List Call) → Option (List Reply) → Option (List Handed) → Telling
telling calls replies messages = record { calls = calls; replies = replies; messages = messages }

-- Between `before` and `after`, the wire and the player showed these events: the calls that were made, the replies that came, and the
-- messages that were sent. If the player has stopped showing messages, the messages are not shown.
pub record Tells (before after : Telling) (events : List Event) : Type 0 where
  pub calls : after.calls ≡ told_with before.calls (filter_map call_in events)
  pub replies : after.replies ≡ told_with before.replies (filter_map reply_in events)
  pub messages : MayKeep before.messages after.messages (filter_map message_in events)
