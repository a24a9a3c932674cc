-- Ends that come back to their desk, compared one after another.
use Rattle.std.proofs.Common.{◌≡◌, ℕ, ◌+◌, ◌<◌, ◌≤◌, List, [], ◌∷◌, ◌++◌, length, get_or, set, refl, sym, ◌∙◌, ap, subst, arith, rules, ⊎_elim, true, min, Option, Some, None, MatchOption, zero, suc, inl, inr}
use Rattle.std.specs.Prelude.{Contains, All}
use mathlib.Core.List.{IsPrefix}
use Rattle.std.proofs.lemmas.Grind.{common_steps}
use Rattle.std.proofs.lemmas.List.Elements.{All-contains, Contains-get_or}
use Rattle.std.proofs.lemmas.Bool.{cases_lt}
use Rattle.std.proofs.lemmas.Bool.Decides.{eqb_tells}
use Rattle.call_history.specs.declared.journal.Entry.{Entry}
use Rattle.call_history.specs.declared.port.Port.{Port}
use Rattle.call_history.specs.Lines.{has_number}
use Rattle.call_history.specs.RingLines.{LineValue, taken_replies, SamePort, SamePorts, SameLine, IsPortOf, AreEndsOf}
use Rattle.call_history.specs.RingClosing.{end_numbers, IsServed, IsUnserved, TakesPrefix, SameEnd, SameEnds, IsLowestUnserved, HaveOwnCalls, HaveOwnReplies}
use Rattle.call_history.specs.Parts.{part, calls_of, replies_of}
use Rattle.call_history.proofs.ServedLines.{get_set}

module _ {C R : Type 0} where
  pub same_end_trans : (a b c : LineValue C R) → SameEnd a b → SameEnd b c → SameEnd a c
  same_end_trans a b c s t = record { line = search rules; posted = t.posted ∙ s.posted; taken = t.taken ∙ s.taken }

  pub same_ends_set : (es fs : List (LineValue C R)) (i : ℕ) (f : LineValue C R)
      → SameEnds es fs → i < length fs → SameEnd (get_or fs i f) f → SameEnds es (set fs i f)
  same_ends_set es fs i f s lt one = record {
    count = grind (arith, common_steps, s.count);
    each = λ j e below.
        get_set (λ x. SameEnd (get_or es j e) x) fs i j f e lt
        (λ at. let same : get_or fs i f ≡ get_or fs j e = grind (arith, common_steps) in
        same_end_trans _ _ _ (s.each j e below) (let Q : LineValue C R → Type 0 = λ x. SameEnd x f in subst Q same one))
        (λ n. s.each j e below);
  }

  pub port_of_same : (p q : Port C R) (l m : LineValue C R) → IsPortOf p l → SamePort p q → SameLine l m → IsPortOf q m
  port_of_same p q l m pair s t = search (rules, s.calls, s.replies)

  pub ends_of_same : (ps qs : List (Port C R)) (es fs : List (LineValue C R)) → SamePorts ps qs → SameEnds es fs → AreEndsOf ps es → AreEndsOf qs fs
  ends_of_same ps qs es fs s t all = λ i e below.
      let lt : i < length es = omega (arith, t.count) in
      let was = all i e lt in
      let end = (t.each i e lt).line in
      let number : (get_or fs i e).number ≡ (get_or es i e).number = end.0 in
      let within : (get_or fs i e).number < length qs = omega (arith, was.within, s.count, number) in
      record {
        within = within;
        rings = λ p. let P : ℕ → Type 0 = λ n. IsPortOf (get_or qs n p) (get_or fs i e) in
            subst P (sym number) (port_of_same (get_or ps (get_or es i e).number p) (get_or qs (get_or es i e).number p) (get_or es i e) (get_or fs i e) (was.rings p) (s.each (get_or es i e).number p was.within) end);
      }

  pub upto_set : (P : LineValue C R → Type 0) (es : List (LineValue C R)) (i : ℕ) (f : LineValue C R) → i < length es
      → ((j : ℕ) (e : LineValue C R) → j < i → P (get_or es j e)) → P f → (j : ℕ) (e : LineValue C R) → j < i + 1 → P (get_or (set es i f) j e)
  upto_set P es i f lt before one = λ j e below. get_set P es i j f e lt (λ at. one) (λ n. before j e (omega (arith, n)))

  -- the result for the first `count` ends: all are served, or the lowest number of an unserved one
  abbrev pub Compared : List (Entry C R) → List (LineValue C R) → ℕ → Option ℕ → Type 0
  Compared h es count lowest = MatchOption lowest ((i : ℕ) (e : LineValue C R) → i < count → IsServed h (get_or es i e)) (λ n. IsLowestUnserved h es count n)

  pub compared_served : (h : List (Entry C R)) (es : List (LineValue C R)) (i : ℕ) (f : LineValue C R) (lowest : Option ℕ) → i < length es
      → Compared h es i lowest → IsServed h f → Compared h (set es i f) (i + 1) lowest
  compared_served h es i f None lt c one = upto_set (IsServed h) es i f lt c one
  compared_served h es i f (Some n) lt c one = record {
    at = c.at;
    within = omega (arith, c.within);
    number_is = λ e. get_set (λ x. x.number ≡ n) es i c.at f e lt (λ at. absurd (omega (arith, c.within))) (λ _. c.number_is e);
    unserved = λ e. get_set (IsUnserved h) es i c.at f e lt (λ at. absurd (omega (arith, c.within))) (λ _. c.unserved e);
    lowest = λ j e below. get_set (λ x. x.number < n → IsServed h x) es i j f e lt (λ at _. one) (λ ne low. c.lowest j e (omega (arith, ne, below)) low);
  }

  pub compared_unserved : (h : List (Entry C R)) (es : List (LineValue C R)) (i : ℕ) (f : LineValue C R) (lowest : Option ℕ) (m : ℕ) → i < length es
      → Compared h es i lowest → IsUnserved h f → MatchOption lowest (m ≡ f.number) (λ n. m ≡ min n f.number) → Compared h (set es i f) (i + 1) (Some m)
  compared_unserved h es i f None m lt c one is = record {
    at = i;
    within = omega arith;
    number_is = λ e. get_set (λ x. x.number ≡ m) es i i f e lt (λ _. sym is) (λ ne. absurd (ne refl));
    unserved = λ e. get_set (IsUnserved h) es i i f e lt (λ _. one) (λ ne. absurd (ne refl));
    lowest = λ j e below. get_set (λ x. x.number < m → IsServed h x) es i j f e lt (λ at low. absurd (omega (arith, is, low))) (λ ne low. c j e (omega (arith, ne, below)));
  }
  compared_unserved h es i f (Some n) m lt c one is =
      ⊎_elim
      (λ (high : f.number < n).
      let same : m ≡ f.number = omega (arith, is, high) in record {
        at = i;
        within = omega arith;
        number_is = λ e. get_set (λ x. x.number ≡ m) es i i f e lt (λ _. sym same) (λ ne. absurd (ne refl));
        unserved = λ e. get_set (IsUnserved h) es i i f e lt (λ _. one) (λ ne. absurd (ne refl));
        lowest = λ j e below. get_set (λ x. x.number < m → IsServed h x) es i j f e lt
            (λ at less. absurd (omega (arith, less, same)))
            (λ ne less. c.lowest j e (omega (arith, ne, below)) (omega (arith, less, same, high)));
      })
      (λ (low : n ≤ f.number).
      let same : m ≡ n = omega (arith, is, low) in record {
        at = c.at;
        within = omega (arith, c.within);
        number_is = λ e. get_set (λ x. x.number ≡ m) es i c.at f e lt (λ at. absurd (omega (arith, c.within))) (λ _. c.number_is e ∙ sym same);
        unserved = λ e. get_set (IsUnserved h) es i c.at f e lt (λ at. absurd (omega (arith, c.within))) (λ _. c.unserved e);
        lowest = λ j e below. get_set (λ x. x.number < m → IsServed h x) es i j f e lt
            (λ at less. absurd (omega (arith, less, same, low)))
            (λ ne less. c.lowest j e (omega (arith, ne, below)) (omega (arith, less, same)));
      })
      (cases_lt f.number n)

  pub numbers_of_same : (es fs : List (LineValue C R)) → SameEnds es fs → end_numbers fs ≡ end_numbers es
  numbers_of_same [] [] s = refl
  numbers_of_same [] (f ∷ fs) s = absurd (omega (arith, s.count))
  numbers_of_same (e ∷ es) [] s = absurd (omega (arith, s.count))
  numbers_of_same (e ∷ es) (f ∷ fs) s =
      let here : f.number ≡ e.number = (s.each 0 e (omega arith)).line.0 in
      let rest : end_numbers fs ≡ end_numbers es = numbers_of_same es fs (record { count = omega (arith, s.count); each = λ i d below. s.each (suc i) d (omega arith) }) in
      ap (λ n. n ∷ end_numbers fs) here ∙ ap (λ ns. e.number ∷ ns) rest

  pub has_end : (es : List (LineValue C R)) (n : ℕ) → has_number n (end_numbers es) ≡ true → (k : ℕ) × (k < length es) × ((e : LineValue C R) → (get_or es k e).number ≡ n)
  has_end [] n has = absurd (cc)
  has_end (e ∷ es) n has = elim (eqb_tells e.number n) [
    | inl same ↦ (zero, omega arith, λ d. same.1)
    | inr differ ↦ (let rest : has_number n (end_numbers es) ≡ true = (rw differ.0 at has) in let there = has_end es n rest in (suc there.0, omega (arith, there.1), there.2))
  ]

  pub served_of_same : (h : List (Entry C R)) (a b : LineValue C R) → SameEnd a b → IsServed h b → IsServed h a
  served_of_same h a b s served = sym s.posted ∙ served ∙ ap (λ n. calls_of (part n h)) s.line.0

  pub prefix_of_same : (h : List (Entry C R)) (a b : LineValue C R) → SameEnd a b → TakesPrefix h b → TakesPrefix h a
  prefix_of_same h a b s p = (p.0, ap (λ x. x ++ p.0) (sym s.taken) ∙ p.1 ∙ ap (λ n. replies_of (part n h)) s.line.0)

  pub own_calls : (h : List (Entry C R)) (es : List (LineValue C R)) → All (IsServed h) es → HaveOwnCalls h es
  own_calls h es all n e among is = sym (All-contains (IsServed h) es e all among ∙ ap (λ k. calls_of (part k h)) is)

  pub own_replies : (h : List (Entry C R)) (es : List (LineValue C R)) → All (TakesPrefix h) es → HaveOwnReplies h es
  own_replies h es all n e among is = subst (λ k. IsPrefix (taken_replies e) (replies_of (part k h))) is (All-contains (TakesPrefix h) es e all among)

pub some_of : {X : Type 0} (xs : List X) (k : ℕ) → k < length xs → X
some_of [] k lt = absurd (omega arith)
some_of (x ∷ xs) k lt = x

pub end_with : {C R : Type 0} (es : List (LineValue C R)) (n : ℕ) → has_number n (end_numbers es) ≡ true
    → (end : LineValue C R) × Contains es end × (end.number ≡ n)
end_with es n has =
    let at = has_end es n has in
    let d = some_of es at.0 at.1 in
    (get_or es at.0 d, Contains-get_or es at.0 d at.1, at.2 d)
