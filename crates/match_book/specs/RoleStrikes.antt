-- Each role's strikes, as a match stores them.
use Rattle.std.specs.Prelude.{◌≡◌, ℕ, zero, suc, ◌+◌, ◌<◌, ◌==◌, nat_le, Bool, true, false, if◌then◌else◌, List, [], ◌∷◌, length, slice_index_or}
use Rattle.match_book.specs.Retirement.{is_struck, retired_by}
use Rattle.match_book.specs.declared.turn.Turn.{Turn}
use Rattle.match_book.specs.declared.retirement.RoleStrikes.{RoleStrikes}
use Rattle.match_book.specs.declared.phase.Stage.{Stage}
use Rattle.match_book.specs.declared.phase.Stage.TheVariants.{Starting, Playing, Stopping, Aborting}

abbrev pub all_struck : {M : Type 0} → ℕ → List (Turn M) → Bool
all_struck role [] = true
all_struck role (t ∷ ts) = if is_struck role t then all_struck role ts else false

-- how many of the role's moves in a row were replaced, up to the last turn
abbrev pub in_a_row : {M : Type 0} → ℕ → List (Turn M) → ℕ
in_a_row role [] = 0
in_a_row role (t ∷ ts) = if all_struck role (t ∷ ts) then suc (length ts) else in_a_row role ts

abbrev pub role_strikes : {M : Type 0} → ℕ → List (Turn M) → ℕ → RoleStrikes
role_strikes strikes turns role = record { in_a_row = in_a_row role turns; is_retired = retired_by strikes turns role }

-- this many replaced moves in a row retire a role
abbrev pub is_enough : ℕ → ℕ → Bool
is_enough strikes n = if strikes == 0 then false else nat_le strikes n

abbrev pub after_turn : ℕ → RoleStrikes → Bool → RoleStrikes
after_turn strikes old true = record { in_a_row = old.in_a_row + 1; is_retired = if old.is_retired then true else is_enough strikes (old.in_a_row + 1) }
after_turn strikes old false = record { in_a_row = 0; is_retired = old.is_retired }

abbrev pub unstruck : RoleStrikes
unstruck = record { in_a_row = 0; is_retired = false }

abbrev pub is_retired_in : List RoleStrikes → ℕ → Bool
is_retired_in kept role = (slice_index_or kept role unstruck).is_retired

-- the number of roles below n that pass the test
abbrev pub count_roles : ℕ → (ℕ → Bool) → ℕ
count_roles zero p = 0
count_roles (suc n) p = if p n then count_roles n p + 1 else count_roles n p

pub record AreStrikes {M : Type 0} (roles strikes : ℕ) (turns : List (Turn M)) (kept : List RoleStrikes) : Type 0 where
  pub one_each : length kept ≡ roles
  pub each : (r : ℕ) (d : RoleStrikes) → r < roles → slice_index_or kept r d ≡ role_strikes strikes turns r

-- the number of roles that count as having answered when a round begins: in play, the retired roles
abbrev pub answered_at_first : Stage → ℕ → ℕ
answered_at_first Starting retired = 0
answered_at_first Playing retired = retired
answered_at_first Stopping retired = 0
answered_at_first (Aborting c) retired = 0
