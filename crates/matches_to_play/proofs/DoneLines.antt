-- Adding the matches of lines, line by line.
use Rattle.std.proofs.Common.{◌≡◌, ◌⊎◌, ◌↔◌, ◌∙◌, true, false, List, ℕ, [], ◌∷◌, ◌++◌, Option, Some, None, inl, inr, ap, arith, subst, sym}
use Rattle.std.specs.Prelude.{Contains, bytes_eq}
use Rattle.std.specs.List.{list_any}
use Rattle.std.proofs.lemmas.List.Elements.{Contains-append_left, Contains-push, Contains-push_cases}
use Rattle.game_core.specs.Play.{Rules}
use Rattle.matches_to_play.specs.Done.{AreNamesOf, IsDone, IsDoneIn}

-- if there are no lines, no match is over, and none was added
pub nothing_noted : {S M K : Type 0} (g : Rules S M) (items : K → List ℕ) (keys : List K) → keys ≡ [] → (names : List ℕ) → (list_any (λ k. bytes_eq names (items k)) keys ≡ true) ↔ IsDoneIn g [] names
nothing_noted g items keys none names = (no_key, no_line)
  where
    no_key : list_any (λ k. bytes_eq names (items k)) keys ≡ true → IsDoneIn g [] names
    no_key some = let bad : false ≡ true = sym (ap (list_any (λ k. bytes_eq names (items k))) none) ∙ some in cc

    no_line : IsDoneIn g [] names → list_any (λ k. bytes_eq names (items k)) keys ≡ true
    no_line (line, among, is) = let lt = among.1 in absurd (omega arith)

module _ {S M : Type 0} (g : Rules S M) (first : List (List ℕ)) (line : List ℕ) (found : Option (List ℕ)) (of_line : AreNamesOf g line found) (names : List ℕ) where
  -- a match is over according to its record in these lines, or in this one more line
  pub done_in_more : IsDoneIn g (first ++ line ∷ []) names ↔ (IsDoneIn g first names ⊎ (found ≡ Some names))
  done_in_more = (from_more, to_more)
    where
      from_more : IsDoneIn g (first ++ line ∷ []) names → IsDoneIn g first names ⊎ (found ≡ Some names)
      from_more (at, among, is) = step (Contains-push_cases first line at among)
        where
          step : Contains first at ⊎ (line ≡ at) → IsDoneIn g first names ⊎ (found ≡ Some names)
          step (inl before) = inl (at, before, is)
          step (inr now) = inr ((of_line names).1 (subst (λ l. IsDone g l names) (sym now) is))

      to_more : IsDoneIn g first names ⊎ (found ≡ Some names) → IsDoneIn g (first ++ line ∷ []) names
      to_more (inl (at, among, is)) = (at, Contains-append_left first (line ∷ []) at among, is)
      to_more (inr some) = (line, Contains-push first line, (of_line names).0 some)

  module _ {Before : Type 0} (are : Before ↔ IsDoneIn g first names) where
    pub done_still : found ≡ None → Before ↔ IsDoneIn g (first ++ line ∷ []) names
    done_still none = ((λ is. done_in_more.1 (inl (are.0 is))), λ is. step (done_in_more.0 is))
      where
        step : IsDoneIn g first names ⊎ (found ≡ Some names) → Before
        step (inl before) = are.1 before
        step (inr some) = let bad : ⊥ = cc in absurd bad

    pub done_now : {After : Type 0} (own : List ℕ) → found ≡ Some own → (After ↔ (Before ⊎ (own ≡ names))) → After ↔ IsDoneIn g (first ++ line ∷ []) names
    done_now own some added = ((λ is. on (added.0 is)), λ is. added.1 (back (done_in_more.0 is)))
      where
        on : Before ⊎ (own ≡ names) → IsDoneIn g (first ++ line ∷ []) names
        on (inl before) = done_in_more.1 (inl (are.0 before))
        on (inr same) = let is : found ≡ Some names = cc in done_in_more.1 (inr is)

        back : IsDoneIn g first names ⊎ (found ≡ Some names) → Before ⊎ (own ≡ names)
        back (inl before) = inl (are.1 before)
        back (inr is) = let same : own ≡ names = cc in inr same
