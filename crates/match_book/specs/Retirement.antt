-- The roles that are retired because too many of their moves in a row were replaced.
use Rattle.std.specs.Prelude.{ℕ, zero, suc, ◌==◌, Bool, true, false, if◌then◌else◌, List, [], ◌∷◌, slice_index_or}
use Rattle.match_book.specs.MatchValue.{MatchValue, is_error}
use Rattle.match_book.specs.Roles.{every_role}
use Rattle.match_book.specs.declared.turn.Turn.{Turn}

-- the role's move in the turn is replaced
abbrev pub is_struck : {M : Type 0} → ℕ → Turn M → Bool
is_struck role t = is_error (slice_index_or t.errors role [])

-- there are at least k turns, and the role's moves in the first k are replaced
abbrev pub begin_struck : {M : Type 0} → ℕ → ℕ → List (Turn M) → Bool
begin_struck zero role turns = true
begin_struck (suc k) role [] = false
begin_struck (suc k) role (t ∷ ts) = if is_struck role t then begin_struck k role ts else false

-- the role's moves are replaced in some k turns in a row
abbrev pub some_struck : {M : Type 0} → ℕ → ℕ → List (Turn M) → Bool
some_struck k role [] = false
some_struck k role (t ∷ ts) = if begin_struck k role (t ∷ ts) then true else some_struck k role ts

-- these turns retire the role, if this many replaced moves in a row retire a role; 0 means never
unfoldable pub retired_by : {M : Type 0} → ℕ → List (Turn M) → ℕ → Bool
retired_by strikes turns role = if strikes == 0 then false else some_struck strikes role turns

-- the match no longer asks the role for moves
abbrev pub is_retired : {M : Type 0} → MatchValue M → ℕ → Bool
is_retired m role = retired_by m.setup.strikes m.turns role

abbrev pub are_all_retired : {M : Type 0} → ℕ → MatchValue M → Bool
are_all_retired roles m = every_role roles (is_retired m)
