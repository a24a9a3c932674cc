-- The text of START, put together part by part.
use Rattle.std.proofs.Common.{◌≡◌, ℕ, List, [], ◌∷◌, ◌++◌, append_assoc, append-nil}
use Rattle.game_core.specs.Bytes.{space}

regrouped : (word a b one d s p e : List ℕ) → (((word ++ a) ++ b) ++ one) ++ (d ++ ((s ++ p) ++ e)) ≡ (word ++ (a ++ (b ++ (one ++ (d ++ (s ++ (p ++ []))))))) ++ e
regrouped word a b one d s p e = simp (append_assoc, append-nil)

pub start_joined : (word id role rules s p : List ℕ) (e : ℕ)
    → (((word ++ space ∷ id) ++ space ∷ role) ++ space ∷ []) ++ (rules ++ (((space ∷ s) ++ space ∷ p) ++ e ∷ []))
    ≡ (word ++ space ∷ (id ++ space ∷ (role ++ space ∷ (rules ++ space ∷ (s ++ space ∷ (p ++ [])))))) ++ e ∷ []
start_joined word id role rules s p e = regrouped word (space ∷ id) (space ∷ role) (space ∷ []) rules (space ∷ s) (space ∷ p) (e ∷ [])
