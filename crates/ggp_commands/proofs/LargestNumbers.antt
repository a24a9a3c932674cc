-- How many matches the descriptors allow at once.
use Rattle.std.proofs.Common.{◌≡◌, ℕ, ◌<◌, ◌≤◌, ◌+◌, ◌-◌, ◌*◌, ◌/◌, ◌%◌, ◌⊎◌, inl, inr, sym, subst, arith}
use Rattle.std.proofs.lemmas.Nat.{div-add-mod', le-div, mul-le}
use Rattle.network_players.specs.Lookups.{lookup_descriptors}
use Rattle.ggp_commands.specs.Descriptors.{Allows, IsLargest}

-- the descriptors allow at most as many matches as the quotient, or 1
allowed_most : (descriptors players others : ℕ) → 0 < players → Allows descriptors players others → (others ≤ 1) ⊎ (others ≤ (descriptors - 16 - lookup_descriptors descriptors) / players)
allowed_most descriptors players others some (inl few) = inl few
allowed_most descriptors players others some (inr many) = inr (le-div others (descriptors - 16 - lookup_descriptors descriptors) players some (omega (arith, many)))

-- the descriptors allow only 1 match if the quotient is 0 or there are no players
pub largest_single : (descriptors players : ℕ) → (0 < players → (descriptors - 16 - lookup_descriptors descriptors) / players ≡ 0) → IsLargest descriptors players 1
largest_single descriptors players none = record {
  some = omega arith;
  allowed = inl (omega arith);
  largest = λ has_players others allows. elim (allowed_most descriptors players others has_players allows) [ inl few ↦ few | inr many ↦ omega (arith, subst (λ n. others ≤ n) (none has_players) many) ];
}

pub fewer_allowed : (descriptors players count fewer : ℕ) → fewer ≤ count → Allows descriptors players count → Allows descriptors players fewer
fewer_allowed descriptors players count fewer are_fewer (inl few) = inl (omega (arith, are_fewer, few))
fewer_allowed descriptors players count fewer are_fewer (inr many) = inr (omega (arith, mul-le fewer players count players are_fewer (omega arith), many))
