-- The loops over atomic sentences, literals and rules.
use Rattle.std.proofs.Common.{◌≡◌, ℕ, ◌+◌, ◌-◌, ◌<◌, ◌≤◌, Bool, true, false, nat_le, if◌then◌else◌, List, [], ◌∷◌, ◌++◌, drop, length, length-append, get_or, drop-cons, add-one, refl, sym, ap, ◌∙◌, arith}
use Rattle.std.proofs.lemmas.Bool.Decides.{nat_tests}
use Rattle.std.proofs.lemmas.List.{at_drop_more}
use Rattle.std.specs.List.{list_any}
use Rattle.rule_sentences.specs.declared.sentence.Atomic.{Atomic}
use Rattle.rule_sentences.specs.declared.sentence.Atomic.TheVariants.{Derived as IsDerived}
use Rattle.rule_sentences.specs.declared.sentence.Literal.{Literal as CodeLiteral}
use Rattle.rule_sentences.specs.declared.sentence.Rule.{Rule as CodeRule}
use Rattle.rule_sentences.specs.SentenceViews.{view, views, rules_of}
use Rattle.rule_sentences.specs.Descriptions.{with_new, with_all_new, each_once}
use Rattle.rule_sentences.specs.Sizes.{same_atomic, atomics_in, all_atomics_in, atomics}

with_all_new-append : {A : Type 0} (same : A → A → Bool) (seen xs ys : List A) → with_all_new same seen (xs ++ ys) ≡ with_all_new same (with_all_new same seen xs) ys
with_all_new-append same seen [] ys = refl
with_all_new-append same seen (x ∷ xs) ys = with_all_new-append same (with_new same seen x) xs ys

literals-at : (ls : List CodeLiteral) (i : ℕ) (l : CodeLiteral) → i < length ls → l ≡ get_or ls i l → all_atomics_in (views (drop i ls)) ≡ atomics_in (view l) ++ all_atomics_in (views (drop (i + 1) ls))
literals-at ls i l lt at =
    let rest = all_atomics_in (views (drop (i + 1) ls)) in
    let here : all_atomics_in (views (drop i ls)) ≡ atomics_in (view (get_or ls i l)) ++ rest = rw (add-one, drop-cons ls i l) refl in
    here ∙ ap (λ x. atomics_in (view x) ++ rest) (sym at)

atomics-at : (rs : List CodeRule) (i : ℕ) (r : CodeRule) → i < length rs → r ≡ get_or rs i r → atomics (rules_of (drop i rs)) ≡ (IsDerived r.head ∷ all_atomics_in (views r.body.items)) ++ atomics (rules_of (drop (i + 1) rs))
atomics-at rs i r lt at =
    let rest = atomics (rules_of (drop (i + 1) rs)) in
    ap atomics (at_drop_more rules_of rs i r lt) ∙ ap (λ x. (IsDerived x.head ∷ all_atomics_in (views x.body.items)) ++ rest) (sym at)

pub literal-added : (seen next whole : List Atomic) (ls : List CodeLiteral) (i : ℕ) (l : CodeLiteral) → i < length ls → l ≡ get_or ls i l → next ≡ with_all_new same_atomic seen (atomics_in (view l))
    → with_all_new same_atomic seen (all_atomics_in (views (drop i ls))) ≡ whole → with_all_new same_atomic next (all_atomics_in (views (drop (i + 1) ls))) ≡ whole
literal-added seen next whole ls i l lt at is e =
    let rest = all_atomics_in (views (drop (i + 1) ls)) in
    ap (λ ks. with_all_new same_atomic ks rest) is ∙ sym (with_all_new-append same_atomic seen (atomics_in (view l)) rest) ∙ ap (with_all_new same_atomic seen) (sym (literals-at ls i l lt at)) ∙ e

pub rule-added : (seen next whole : List Atomic) (rs : List CodeRule) (i : ℕ) (r : CodeRule) → i < length rs → r ≡ get_or rs i r → next ≡ with_all_new same_atomic seen (IsDerived r.head ∷ all_atomics_in (views r.body.items))
    → with_all_new same_atomic seen (atomics (rules_of (drop i rs))) ≡ whole → with_all_new same_atomic next (atomics (rules_of (drop (i + 1) rs))) ≡ whole
rule-added seen next whole rs i r lt at is e =
    let rest = atomics (rules_of (drop (i + 1) rs)) in
    let own = IsDerived r.head ∷ all_atomics_in (views r.body.items) in
    ap (λ ks. with_all_new same_atomic ks rest) is ∙ sym (with_all_new-append same_atomic seen own rest) ∙ ap (with_all_new same_atomic seen) (sym (atomics-at rs i r lt at)) ∙ e

pub room-literal : (left next whole : ℕ) (ls : List CodeLiteral) (i : ℕ) (l : CodeLiteral) → i < length ls → l ≡ get_or ls i l → next ≡ left - length (atomics_in (view l))
    → left - length (all_atomics_in (views (drop i ls))) ≡ whole → next - length (all_atomics_in (views (drop (i + 1) ls))) ≡ whole
room-literal left next whole ls i l lt at is e =
    let rest = all_atomics_in (views (drop (i + 1) ls)) in
    let size = ap length (literals-at ls i l lt at) ∙ length-append (atomics_in (view l)) rest in
    omega (arith, is, e, size)

pub room-rule : (left headed next whole : ℕ) (rs : List CodeRule) (i : ℕ) (r : CodeRule) → i < length rs → r ≡ get_or rs i r → headed ≡ left - 1 → next ≡ headed - length (all_atomics_in (views r.body.items))
    → left - length (atomics (rules_of (drop i rs))) ≡ whole → next - length (atomics (rules_of (drop (i + 1) rs))) ≡ whole
room-rule left headed next whole rs i r lt at first second e =
    let rest = atomics (rules_of (drop (i + 1) rs)) in
    let size = ap length (atomics-at rs i r lt at) ∙ length-append (IsDerived r.head ∷ all_atomics_in (views r.body.items)) rest in
    omega (arith, first, second, e, size)

-- there are at most as many distinct members as members

new-or-not : {A : Type 0} (b : Bool) (seen : List A) (x : A) → length (if b then seen else seen ++ x ∷ []) ≤ length seen + 1
new-or-not true seen x = omega arith
new-or-not false seen x = omega (arith, length-append seen (x ∷ []))

with_all_new-length : {A : Type 0} (same : A → A → Bool) (seen xs : List A) → length (with_all_new same seen xs) ≤ length seen + length xs
with_all_new-length same seen [] = omega arith
with_all_new-length same seen (x ∷ xs) = omega (arith, with_all_new-length same (with_new same seen x) xs, new-or-not (list_any (same x) seen) seen x)

pub few-each-once : (xs : List Atomic) (m : ℕ) → nat_le (length xs) m ≡ true → nat_le (length (each_once same_atomic xs)) m ≡ true
few-each-once xs m few =
    let with_none : length (each_once same_atomic xs) ≤ 0 + length xs = with_all_new-length same_atomic [] xs in
    let no_more : length (each_once same_atomic xs) ≤ length xs = omega (arith, with_none) in
    grind (arith, nat_tests, no_more, few)
