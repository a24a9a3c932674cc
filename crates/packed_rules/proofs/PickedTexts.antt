-- The loop that picks texts.
use Rattle.std.proofs.Common.{ℕ, ◌<◌, ◌+◌, ◌≡◌, Bool, true, false, if◌then◌else◌, List, [], ◌∷◌, ◌++◌, refl, length, get_or, drop, append_assoc}
use Rattle.std.proofs.lemmas.List.{drop_more}
use Rattle.ground_rules.specs.Lookups.{picked}

pub picked-next : (bits : List Bool) (texts : List (List ℕ)) (i : ℕ) (found : List (List ℕ)) → i < length bits → i < length texts
    → (if get_or bits i false then found ++ get_or texts i [] ∷ [] else found) ++ picked (drop (i + 1) bits) (drop (i + 1) texts) ≡ found ++ picked (drop i bits) (drop i texts)
picked-next bits texts i found lt lt' = rw (drop_more bits i false lt, drop_more texts i [] lt') (by (get_or bits i false))
  where
    rest : List (List ℕ)
    rest = picked (drop (i + 1) bits) (drop (i + 1) texts)

    by : (b : Bool) → (if b then found ++ get_or texts i [] ∷ [] else found) ++ rest ≡ found ++ (if b then get_or texts i [] ∷ rest else rest)
    by true = append_assoc found (get_or texts i [] ∷ []) rest
    by false = refl
