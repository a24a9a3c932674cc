-- How the time of a message is counted, and how the reads of the message use it.
use Rattle.std.specs.Prelude.{◌≡◌, ◌⊎◌, ◌+◌, ◌-◌, ◌/◌, ◌<◌, ◌≤◌, ◌^◌, ◌==◌, if◌then◌else◌, ℕ, IsSomeAnd, max, min}
use Rattle.std.specs.Duration.{as_nanos, max_nanos}
use Rattle.network_players.specs.declared.deadline.Deadline.{Deadline}
use Rattle.network_players.specs.declared.deadline.Step.{Step}
use Rattle.network_players.specs.declared.deadline.Step.TheVariants.{Waits, Sleeps, Looks, Ends}

-- What a step costs a message: the time that passed. If that exceeds the requested time by more than an eighth of the requested time
-- plus a tenth of a second, the program was not running, and the step costs the requested time.
abbrev pub IsCharged : ℕ → ℕ → ℕ → Type 0
IsCharged asked passed charged = ((passed - asked ≤ min (asked / 8 + 100000000) max_nanos) × (charged ≡ passed))
    ⊎ ((min (asked / 8 + 100000000) max_nanos < passed - asked) × (charged ≡ asked))

-- What a read does, given the time that is left and how many final reads are left: it waits for half the time, at most ten seconds, sleeps
-- through the last 20 milliseconds, and then takes the bytes that are there.
abbrev pub IsStep : ℕ → ℕ → Step → Type 0
IsStep left looks (Waits time) = (20000000 < left) × (as_nanos time ≡ min 10000000000 (left / 2))
IsStep left looks (Sleeps time) = (0 < left) × ((left ≤ 20000000) × (as_nanos time ≡ left))
IsStep left looks Looks = (left ≡ 0) × (0 < looks)
IsStep left looks Ends = (left ≡ 0) × (looks ≡ 0)

-- The time limit of a first attempt to connect, and of each attempt to write, in nanoseconds: a quarter of the time that is left, at most a second.
abbrev pub first_limit : ℕ → ℕ
first_limit left = max 1000000 (min 1000000000 (left / 4))

abbrev pub share : ℕ → ℕ → ℕ
share left among = max 1000000 (left / max 1 among)

-- The time limit of an attempt to connect to an address, in nanoseconds. As long as addresses are tried for the first time, it is short: as for a
-- first attempt, and at most an equal share for each address that is left and for what follows. Then the addresses that did not answer share
-- the time that is left, and each attempt takes at most `longest`.
abbrev pub try_limit : ℕ → ℕ → ℕ → ℕ → ℕ
try_limit left silent untried longest = if silent == 0 then min (first_limit left) (share left (min (2 ^ 32 - 1) (untried + 1))) else min longest (share left silent)

-- Whether the program was stopped, and continued at most a second before, counted in the time of the message.
abbrev pub HasStopped : Deadline → Type 0
HasStopped deadline = IsSomeAnd (deadline.stopped_at) (λ at. as_nanos at - as_nanos (deadline.left) ≤ 1000000000)
