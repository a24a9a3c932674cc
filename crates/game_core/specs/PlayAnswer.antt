-- The result of a replay: the state, or the first error.
use Rattle.std.specs.Prelude.{ℕ, ◌<◌, ◌≡◌, ◌≢◌, true, false, List, length, take, slice_index_or, [], Contains, Result, Ok, Err}
use Rattle.game_core.specs.declared.play.PlayFault.{PlayFault}
use Rattle.game_core.specs.declared.play.PlayFault.TheVariants.{AfterEnd, WrongWidth, Illegal, Memory}
use Rattle.game_core.specs.Play.{Rules, play, AreLegal}

-- this role is the lowest one with a move that is not legal
pub record IsFirstIllegal {S M : Type 0} (g : Rules S M) (s : S) (joint : List M) (role : ℕ) : Type 0 where
  pub within : role < length joint
  pub illegal : (d : M) → ¬ (Contains (g.legal s role) (slice_index_or joint role d))
  pub below : (q : ℕ) (d : M) → q < role → Contains (g.legal s q) (slice_index_or joint q d)

-- the turn exists, and all turns before it are legal
pub record IsReached {S M : Type 0} (g : Rules S M) (turns : List (List M)) (turn : ℕ) : Type 0 where
  pub within : turn < length turns
  pub legal : AreLegal g (take turn turns)

abbrev pub state_before : {S M : Type 0} → Rules S M → List (List M) → ℕ → S
state_before g turns turn = play g (take turn turns)

abbrev pub turn_at : {M : Type 0} → List (List M) → ℕ → List M
turn_at turns turn = slice_index_or turns turn []

-- the state after legal turns, or the first wrong turn with its first error
abbrev pub IsPlayAnswer : {S M : Type 0} → Rules S M → List (List M) → Result S PlayFault → Type 0
IsPlayAnswer g turns (Ok s) = AreLegal g turns × (s ≡ play g turns)
IsPlayAnswer g turns (Err (AfterEnd t)) = IsReached g turns t × (g.terminal (state_before g turns t) ≡ true)
IsPlayAnswer g turns (Err (WrongWidth t)) = IsReached g turns t × (g.terminal (state_before g turns t) ≡ false) × (length (turn_at turns t) ≢ g.roles)
IsPlayAnswer g turns (Err (Illegal t r)) = IsReached g turns t × (g.terminal (state_before g turns t) ≡ false) × (length (turn_at turns t) ≡ g.roles) × IsFirstIllegal g (state_before g turns t) (turn_at turns t) r
IsPlayAnswer g turns (Err Memory) = Unit {0}
