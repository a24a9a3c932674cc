-- What the referee may lack.
use Rattle.std.specs.Prelude.{◌≡◌, ◌⊎◌, ℕ, ℤ, unsigned_abs, ◌==◌, if◌then◌else◌, Bool, true, false, List, [], ◌∷◌, Option, Some, None, unwrap_or}
use Rattle.std.specs.declared.io.ErrorKind.{ErrorKind}
use Rattle.std.specs.declared.io.ErrorKind.TheVariants.{WouldBlock, TimedOut, AddrNotAvailable, OutOfMemory, NetworkDown}
use Rattle.match_plans.specs.declared.shortages.Shortage.{Shortage}
use Rattle.match_plans.specs.declared.shortages.Shortage.TheVariants.{Descriptors, Ports, Memory, Clock, Resolver, Network, Processor}
use Rattle.http_exchange.specs.declared.received.Received.TheVariants.{Unconnected}
use Rattle.network_players.specs.declared.contacting.ContactFault.{ContactFault}
use Rattle.network_players.specs.declared.contacting.ContactFault.TheVariants as faults

abbrev pub shortage_in : List (ℕ × Shortage) → ℕ → Option Shortage
shortage_in [] number = None
shortage_in (row ∷ rows) number = if number == row.0 then Some row.1 else shortage_in rows number

-- Linux errors that only this computer causes, although their `ErrorKind` does not show this: EPERM (a firewall rule), ENFILE, EMFILE,
-- EAFNOSUPPORT, ECONNABORTED (the administrator ended the connection) and ENOBUFS.
abbrev pub error_shortages : List (ℕ × Shortage)
error_shortages = (1, Network) ∷ (23, Descriptors) ∷ (24, Descriptors) ∷ (97, Network) ∷ (103, Network) ∷ (105, Memory) ∷ []

-- error numbers are above 0
abbrev pub number_shortage : Option ℤ → Option Shortage
number_shortage (Some number) = shortage_in error_shortages (unsigned_abs number)
number_shortage None = None

abbrev pub is_among : List ℕ → ℕ → Bool
is_among [] number = false
is_among (row ∷ rows) number = if number == row then true else is_among rows number

-- Linux errors that can come from this computer's routes, or from an ICMP message of the player or a router: EACCES, EINVAL,
-- ENETUNREACH and EHOSTUNREACH. A probe that only this computer can refuse decides which.
abbrev pub errors_of_either : List ℕ
errors_of_either = 13 ∷ 22 ∷ 101 ∷ 113 ∷ []

abbrev pub is_of_either : Option ℤ → Bool
is_of_either (Some number) = is_among errors_of_either (unsigned_abs number)
is_of_either None = false

-- What the referee lacks according to a system error, from the error's kind and number. Only this computer causes these errors. A peer,
-- a router or a firewall on the way can cause all other errors: ECONNREFUSED, EHOSTUNREACH, ENETUNREACH, EACCES, EPROTO, ENOPROTOOPT,
-- EOPNOTSUPP, EHOSTDOWN, ENONET and EMSGSIZE through ICMP, and ECONNREFUSED, ECONNRESET, EPIPE and ETIMEDOUT through TCP.
abbrev pub system_shortage : ErrorKind → Option ℤ → Option Shortage
system_shortage OutOfMemory number = Some Memory
system_shortage AddrNotAvailable number = Some Ports
system_shortage WouldBlock number = Some Ports
system_shortage NetworkDown number = Some Network
system_shortage kind number = number_shortage number

-- What the referee lacked when the lookup of a host failed. A system error has a number; an error of the resolver has none. The host
-- has no address if the resolver reports that the name does not exist, or reports anything else while this computer has a network.
abbrev pub lookup_shortage : ErrorKind → Option ℤ → Bool → Option Shortage → Option Shortage
lookup_shortage OutOfMemory number is_unknown without_network = Some Memory
lookup_shortage kind (Some number) is_unknown without_network = Some (unwrap_or (number_shortage (Some number)) Resolver)
lookup_shortage kind None true without_network = None
lookup_shortage kind None false without_network = without_network

-- What this computer lacks if it finds no route: a network, unless the error shows a lack of descriptors or memory.
abbrev pub lack_by : Option Shortage → Shortage
lack_by (Some Descriptors) = Descriptors
lack_by (Some Memory) = Memory
lack_by shortage = Network

abbrev pub route_shortage : ErrorKind → Option ℤ → Shortage
route_shortage kind number = lack_by (system_shortage kind number)

abbrev pub short_halt : Option Shortage → Option ContactFault
short_halt (Some shortage) = Some (faults.Shortage shortage)
short_halt None = None

-- A read or a write that ran out of time fails with this kind and number. `TimedOut` with a number means that the system gave up the
-- connection.
abbrev pub IsTimeOut : ErrorKind → Option ℤ → Type 0
IsTimeOut kind number = (kind ≡ WouldBlock) ⊎ ((kind ≡ TimedOut) × (number ≡ None))

-- The halt after a failed read or write: late if it ran out of time, or the resource whose lack made it fail. If there is no halt, the
-- player was the cause.
abbrev pub failed_halt : ErrorKind → Option ℤ → Option ContactFault
failed_halt WouldBlock number = Some (faults.Late Unconnected)
failed_halt TimedOut None = Some (faults.Late Unconnected)
failed_halt kind number = short_halt (system_shortage kind number)

-- the codes that threads use to share what the referee lacks
abbrev pub shortage_codes : List (ℕ × Shortage)
shortage_codes = (1, Descriptors) ∷ (2, Ports) ∷ (3, Memory) ∷ (4, Clock) ∷ (5, Resolver) ∷ (6, Network) ∷ (7, Processor) ∷ []

abbrev pub coded_shortage : ℕ → Option Shortage
coded_shortage code = shortage_in shortage_codes code
