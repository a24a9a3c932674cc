-- The lines of a new desk.
use Rattle.std.proofs.Common.{◌≡◌, ℕ, suc, ◌+◌, ◌<◌, List, [], ◌∷◌, Some, length, drop, subst, arith}
use Rattle.std.specs.Prelude.{slice_get, slice_index_or}
use Rattle.std.proofs.lemmas.Option.{slice_get_within, get_or_from_slice_get}
use Rattle.call_history.specs.declared.port.Port.{Port}
use Rattle.call_history.specs.RingLines.{LineValue, SamePorts}
use Rattle.call_history.specs.RingLaws.{NewLinesStay}
use Rattle.role_workers.specs.RoleLines.{line_of, AreSeatLines}

pub behind_first_at : {A : Type 0} (all rest : List A) → rest ≡ drop 1 all → (k : ℕ) (x : A) → slice_get rest k ≡ Some x → (k + 1 < length all) × (slice_index_or all (k + 1) x ≡ x)
behind_first_at {A} all rest is k x at = at_behind all k x (subst (λ xs. slice_get xs k ≡ Some x) is at)
  where
    at_behind : (xs : List A) (n : ℕ) (y : A) → slice_get (drop 1 xs) n ≡ Some y → (n + 1 < length xs) × (slice_index_or xs (n + 1) y ≡ y)
    at_behind [] n y found = absurd cc
    at_behind (z ∷ zs) n y found = (omega (arith, slice_get_within zs n y found), (let next : suc n ≡ n + 1 = omega arith in subst (λ m. slice_index_or (z ∷ zs) m y ≡ y) next (get_or_from_slice_get zs n y y found)))

-- lines that are new stay new while the desk serves
module _ {C R : Type 0} where
  pub seats_of_ports : NewLinesStay C R → (ports ports' : List (Port C R)) (others : List (LineValue C R)) → SamePorts ports ports' → length ports ≡ length others + 1 → AreSeatLines ports others → AreSeatLines ports' others
  seats_of_ports stay ports ports' others same count new role line at =
      stay ports ports' (line_of role) line same (omega (arith, slice_get_within others role line at, count)) (new role line at)
