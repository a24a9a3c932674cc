-- One more entry at the end of a history.
use Rattle.std.proofs.Common.{◌≡◌, List, [], ◌∷◌, ◌++◌, refl, sym, ◌∙◌, ap}
use Rattle.call_history.specs.declared.journal.Entry.{Entry}
use Rattle.call_history.specs.History.{run, IsLegalHistory, IsReplay}

module _ {S C R : Type 0} (reply : S → C → R) (after : S → C → S) where
  pub run-snoc : (s : S) (es : List (Entry C R)) (e : Entry C R) → run after s (es ++ e ∷ []) ≡ after (run after s es) e.call
  run-snoc s [] e = refl
  run-snoc s (x ∷ es) e = run-snoc (after s x.call) es e

  pub IsLegalHistory-snoc : (s : S) (es : List (Entry C R)) (e : Entry C R) → IsLegalHistory reply after s es → e.reply ≡ reply (run after s es) e.call → IsLegalHistory reply after s (es ++ e ∷ [])
  IsLegalHistory-snoc s [] e legal is = (is, tt)
  IsLegalHistory-snoc s (x ∷ es) e legal is = (legal.0, IsLegalHistory-snoc (after s x.call) es e legal.1 is)

  -- the converse
  pub IsLegalHistory-unsnoc : (s : S) (es : List (Entry C R)) (e : Entry C R) → IsLegalHistory reply after s (es ++ e ∷ []) → IsLegalHistory reply after s es × (e.reply ≡ reply (run after s es) e.call)
  IsLegalHistory-unsnoc s [] e legal = (tt, legal.0)
  IsLegalHistory-unsnoc s (x ∷ es) e legal =
      let rest : IsLegalHistory reply after (after s x.call) es × (e.reply ≡ reply (run after (after s x.call) es) e.call) = IsLegalHistory-unsnoc (after s x.call) es e legal.1 in
      ((legal.0, rest.0), rest.1)

  -- one more call on the object, and its entry at the end of the history
  pub IsReplay-snoc : (opening : S → S) → ((s : S) (c : C) → opening (after s c) ≡ opening s)
      → (old new : S) (es es' : List (Entry C R)) (e : Entry C R)
      → IsReplay reply after opening old es → e.reply ≡ reply old e.call → new ≡ after old e.call → es' ≡ es ++ e ∷ []
      → IsReplay reply after opening new es'
  IsReplay-snoc opening keeps old new es es' e kept is step more =
      let same : opening new ≡ opening old = ap opening step ∙ keeps old e.call in
      let legal : IsLegalHistory reply after (opening old) (es ++ e ∷ []) = IsLegalHistory-snoc (opening old) es e kept.legal (is ∙ ap (λ s. reply s e.call) kept.leaves) in
      let leaves : new ≡ run after (opening old) (es ++ e ∷ []) = step ∙ (ap (λ s. after s e.call) kept.leaves ∙ sym (run-snoc (opening old) es e)) in
      record {
        legal = rw (same, more) legal;
        leaves = rw (same, more) leaves;
      }
