-- What an exchange with a player counts as.
use Rattle.std.specs.Prelude.{ℕ, ℤ, Bool, true, false, if◌then◌else◌, List, Option, Some, None, Result, Ok, Err}
use Rattle.std.specs.declared.io.ErrorKind.{ErrorKind}
use Rattle.std.specs.declared.io.ErrorKind.TheVariants.{WouldBlock, TimedOut}
use Rattle.desk_calls.specs.declared.answer.Answer.{Answer}
use Rattle.desk_calls.specs.declared.answer.Answer.TheVariants.{Text, Silent, Broken}
use Rattle.http_exchange.specs.declared.received.Received.{Received}
use Rattle.http_exchange.specs.declared.received.Received.TheVariants.{Nothing, Unconnected, Unsent, Status}
use Rattle.http_exchange.specs.declared.wire_fault.WireFault.{WireFault}
use Rattle.http_exchange.specs.declared.wire_fault.WireFault.TheVariants as exchange_faults
use Rattle.match_plans.specs.declared.shortages.Shortage.{Shortage}
use Rattle.match_plans.specs.declared.shortages.Shortage.TheVariants.{Ports, Memory, Network}
use Rattle.network_players.specs.Shortages.{system_shortage}
use Rattle.network_players.specs.declared.contacting.ContactFault.{ContactFault}
use Rattle.network_players.specs.declared.contacting.ContactFault.TheVariants as faults
use Rattle.network_players.specs.declared.contacting.AfterTry.{AfterTry}
use Rattle.network_players.specs.declared.contacting.AfterTry.TheVariants.{Waits, Tries, Ends}

-- silent if no answer came in time, and broken after any other error
abbrev pub answer_of : Result (List ℕ) WireFault → Answer
answer_of (Ok text) = Text text
answer_of (Err (exchange_faults.ReadFault WouldBlock)) = Silent
answer_of (Err (exchange_faults.ReadFault TimedOut)) = Silent
answer_of (Err fault) = Broken

-- An exchange counts as `answer_of` says. The answer is silent if the time was over, and broken after any other error. If the referee lacked
-- a resource, it counts as broken too, and the match has no record.
abbrev pub contact_answer : Result (List ℕ) ContactFault → Answer
contact_answer (Ok text) = answer_of (Ok text)
contact_answer (Err (faults.Exchange fault received)) = answer_of (Err fault)
contact_answer (Err (faults.Late received)) = Silent
contact_answer (Err fault) = Broken

-- The error of a message: `fault` is the error of the last attempt, and `halt` is why no other attempt followed. If one of them says what the
-- referee lacks, this is the error; otherwise it is `fault`.
abbrev pub fault_at_end : ContactFault → ContactFault → ContactFault
fault_at_end (faults.Shortage shortage) halt = faults.Shortage shortage
fault_at_end fault (faults.Shortage shortage) = faults.Shortage shortage
fault_at_end fault halt = fault

abbrev pub short_fault : Option Shortage → ContactFault
short_fault (Some shortage) = faults.Shortage shortage
short_fault None = faults.NoConnection

-- The error of an address to which no connection was made, from the error's kind and number. It is late if the time was over; then
-- `TimedOut` has no number. If it has a number, the system gave up the connection.
abbrev pub address_fault : ErrorKind → Option ℤ → ContactFault
address_fault TimedOut None = faults.Late Unconnected
address_fault kind number = short_fault (system_shortage kind number)

-- The error of an address to which no connection was made. If both this computer and the player can cause the error, and this computer
-- cannot send to the address, the error says what this computer lacks.
abbrev pub connect_fault : ErrorKind → Option ℤ → Bool → Option Shortage → ContactFault
connect_fault kind number true refusal = short_fault refusal
connect_fault kind number false refusal = address_fault kind number

-- whether a message failed in the network, and not because of what the player sent
abbrev pub is_of_network : ContactFault → Bool
is_of_network (faults.Late received) = true
is_of_network faults.NoConnection = true
is_of_network (faults.Exchange (exchange_faults.ReadFault kind) received) = true
is_of_network (faults.Exchange exchange_faults.WriteFault received) = true
is_of_network fault = false

-- The error of a message that failed in the network: what this computer lacks, if it cannot send to the player, or else the given
-- error.
abbrev pub fault_at_refusal : Option Shortage → ContactFault → ContactFault
fault_at_refusal (Some shortage) fault = faults.Shortage shortage
fault_at_refusal None fault = fault

-- The error of all addresses so far, from the error of the earlier ones and the error of the last one. A lack of ports or of a network
-- counts only if no address gave another error.
abbrev pub fault_so_far : ContactFault → ContactFault → ContactFault
fault_so_far (faults.Shortage Ports) last = last
fault_so_far (faults.Shortage Network) last = last
fault_so_far (faults.Shortage shortage) last = faults.Shortage shortage
fault_so_far faults.NoAddress last = last
fault_so_far before (faults.Shortage Ports) = before
fault_so_far before (faults.Shortage Network) = before
fault_so_far before last = last

-- What follows an attempt to connect. If the referee lacked a resource, another attempt follows, even if the player has accepted no connection
-- for some seconds. If the player accepts no connection or its host has no address, and `is_patient` is true, another attempt follows. An
-- attempt that had no time left does not count, so the error is that of the earlier attempt.
abbrev pub after_try : ContactFault → Bool → ContactFault → AfterTry
after_try before is_patient (faults.Shortage shortage) = Waits
after_try before is_patient faults.NoConnection = if is_patient then Tries else Ends faults.NoConnection
after_try before is_patient faults.NoAddress = if is_patient then Tries else Ends faults.NoAddress
after_try before is_patient (faults.Late received) = Ends before
after_try before is_patient fault = Ends fault

-- The longest pause after an attempt with this error, in nanoseconds. Only after a lookup that found no address do pauses grow, to half a second.
abbrev pub longest_pause : ContactFault → ℕ
longest_pause faults.NoAddress = 500000000
longest_pause fault = 50000000

-- Whether the player may have closed the connection because the program had been stopped (`has_stopped`): before it had the whole request,
-- or, if `may_cross` is true, before it sent an answer.
abbrev pub is_cut_by_stop : Bool → Bool → ContactFault → Bool
is_cut_by_stop true may_cross (faults.Exchange exchange_faults.WriteFault Unsent) = true
is_cut_by_stop true may_cross (faults.Exchange exchange_faults.CutShort Nothing) = may_cross
is_cut_by_stop true may_cross (faults.Exchange (exchange_faults.ReadFault kind) Nothing) = may_cross
is_cut_by_stop has_stopped may_cross fault = false

abbrev pub exchange_fault : Received → WireFault → ContactFault
exchange_fault received exchange_faults.Memory = faults.Shortage Memory
exchange_fault (Status status have) exchange_faults.BadStatus = faults.Status status
exchange_fault received fault = faults.Exchange fault received

-- The outcome of an exchange: the halt of the last read or write, if there was one; or else the body, or the error of the exchange with
-- the status that was received. The error of an exchange says how far the exchange got.
abbrev pub outcome_of : Option ContactFault → Received → Result (List ℕ) WireFault → Result (List ℕ) ContactFault
outcome_of (Some (faults.Late before)) received exchanged = Err (faults.Late received)
outcome_of (Some halt) received exchanged = Err halt
outcome_of None received (Ok text) = Ok text
outcome_of None received (Err fault) = Err (exchange_fault received fault)
