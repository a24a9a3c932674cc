-- A result for the bytes so far stays the same.
use Rattle.std.proofs.Common.{◌≡◌, ◌≢◌, ℕ, ◌+◌, ◌≤◌, Bool, true, false, List, ◌++◌, length, Option, Some, None, refl, sym, ap, ◌∙◌, arith, inl, inr, length-append}
use Rattle.std.specs.Prelude.{◌⊎◌, nat_lt, nat_le}
use Rattle.std.proofs.lemmas.List.{take-append-le}
use Rattle.std.proofs.lemmas.Bool.Decides.{nat_tests}
use Rattle.http_exchange.specs.HttpHead.{HeadIs, HasNoHead, MayBecomeHead, IsHopeless, front, max_head, max_body}
use Rattle.http_exchange.specs.Looks.{look_from, look_past}
use Rattle.http_exchange.specs.WireLaws.{LooksStay, IsUndecided}
use Rattle.http_exchange.specs.declared.head.HttpKind.{HttpKind}
use Rattle.http_exchange.specs.declared.head.HttpKind.TheVariants.{Reply}
use Rattle.http_exchange.specs.declared.head.Head.{Head}
use Rattle.http_exchange.specs.declared.head.Head.TheVariants.{Unfinished, Whole, Bad, Refused}
use Rattle.http_exchange.specs.declared.head.HeadPart.{HeadPart}
use Rattle.http_exchange.specs.declared.look.Look.TheVariants.{More}
use Rattle.http_exchange.proofs.Heads.{head_stays, framed_alone, not_hopeless}

look_from_stays : (start : ℕ) (size : Option ℕ) (have more : ℕ) (ended : Bool) → look_from start size have false ≢ More
    → look_from start size (have + more) ended ≡ look_from start size have false
look_from_stays start (Some n) have more ended h =
    stays (nat_le (start + n) have) refl
  where
    stays : (b : Bool) → nat_le (start + n) have ≡ b → look_from start (Some n) (have + more) ended ≡ look_from start (Some n) have false
    stays true e =
        let later : nat_le (start + n) (have + more) ≡ true = grind (arith, nat_tests) in
        rw (e, later) refl
    stays false e = absurd (h (rw e refl))
look_from_stays start None have more ended h =
    stays (nat_lt (start + max_body Reply) have) refl
  where
    stays : (b : Bool) → nat_lt (start + max_body Reply) have ≡ b → look_from start None (have + more) ended ≡ look_from start None have false
    stays true e =
        let later : nat_lt (start + max_body Reply) (have + more) ≡ true = grind (arith, nat_tests) in
        rw (e, later) refl
    stays false e = absurd (h (rw e refl))

look_past_stays : (head : Head) (have more : ℕ) (ended : Bool) → look_past head have false ≢ More
    → look_past head (have + more) ended ≡ look_past head have false
look_past_stays Unfinished have more ended h =
    stays (nat_le max_head have) refl
  where
    stays : (b : Bool) → nat_le max_head have ≡ b → look_past Unfinished (have + more) ended ≡ look_past Unfinished have false
    stays true e =
        let later : nat_le max_head (have + more) ≡ true = grind (arith, nat_tests) in
        rw (e, later) refl
    stays false e = absurd (h (rw e refl))
look_past_stays (Bad part) have more ended h = refl
look_past_stays (Refused refusal) have more ended h = refl
look_past_stays (Whole frame) have more ended h = look_from_stays frame.start frame.length have more ended h

-- if an unfinished head gives a result other than `More`, it fills the front
full : (have : ℕ) → look_past Unfinished have false ≢ More → max_head ≤ have
full have h =
    filled (nat_le max_head have) refl
  where
    filled : (b : Bool) → nat_le max_head have ≡ b → max_head ≤ have
    filled true e = grind (arith, nat_tests)
    filled false e = absurd (h (rw e refl))

same_front : (kind : HttpKind) (bytes more : List ℕ) (head : Head) → max_head ≤ length bytes → HeadIs kind bytes head → HeadIs kind (bytes ++ more) head
same_front kind bytes more head long is =
    let same : front (bytes ++ more) ≡ front bytes = take-append-le max_head bytes more long in
    rw same is

-- both heads give the same result for any number of bytes; two bad heads may differ in the bad part
abbrev AreAlike : Head → Head → Type 0
AreAlike other head = (have : ℕ) (ended : Bool) → look_past other have ended ≡ look_past head have ended

alike : (other head : Head) → other ≡ head → AreAlike other head
alike other head same have ended = ap (λ (h : Head). look_past h have ended) same

both_bad : (other head : Head) (one another : HeadPart) → other ≡ Bad one → head ≡ Bad another → AreAlike other head
both_bad other head one another is also have ended = alike other (Bad one) is have ended ∙ sym (alike head (Bad another) also have ended)

-- bytes have only one result, unless they are undecided
head_alone : (kind : HttpKind) (bytes : List ℕ) (head other : Head) → HeadIs kind bytes head → HeadIs kind bytes other → AreAlike other head ⊎ IsUndecided kind bytes
head_alone kind bytes head other is also =
    elim is [
      | inl whole ↦ inl (alike other head (framed_alone kind bytes whole.0 whole.1 other whole.2 whole.3 also ∙ sym whole.4))
      | inr rest ↦
          elim rest [
            | inl hopeless ↦ where_hopeless hopeless.0 hopeless.1 hopeless.3 also
            | inr unfinished ↦ where_unfinished unfinished.0 unfinished.1 unfinished.2 also
          ]
    ]
  where
    where_hopeless : IsHopeless kind (front bytes) → (part : HeadPart) → head ≡ Bad part → HeadIs kind bytes other → AreAlike other head ⊎ IsUndecided kind bytes
    where_hopeless hopeless part same found =
        elim found [
          | inl whole ↦ absurd (not_hopeless kind (front bytes) whole.0 whole.1 hopeless whole.2 whole.3)
          | inr rest ↦
              elim rest [
                | inl again ↦ inl (both_bad other head again.1 part again.3 same)
                | inr unfinished ↦ inr (record { unfinished = unfinished.1; hopeless = hopeless })
              ]
        ]

    where_unfinished : HasNoHead kind (front bytes) → MayBecomeHead kind (front bytes) → head ≡ Unfinished → HeadIs kind bytes other → AreAlike other head ⊎ IsUndecided kind bytes
    where_unfinished none may same found =
        elim found [
          | inl whole ↦ absurd (none whole.0 whole.1 whole.2)
          | inr rest ↦
              elim rest [
                | inl hopeless ↦ inr (record { unfinished = may; hopeless = hopeless.0 })
                | inr again ↦ inl (alike other head (again.2 ∙ sym same))
              ]
        ]

pub looks_stay : LooksStay
looks_stay kind bytes more ended look later now wanted then =
    let head = now.0 in
    let decided : look_past head (length bytes) false ≢ More = λ e. wanted (now.2 ∙ e) in
    let on : HeadIs kind (bytes ++ more) head =
    elim (head_stays kind bytes more head now.1) [
      | inl nothing ↦
          let unfinished : look_past Unfinished (length bytes) false ≢ More = λ e. decided (ap (λ (h : Head). look_past h (length bytes) false) nothing ∙ e) in
          same_front kind bytes more head (full (length bytes) unfinished) now.1
      | inr longer ↦ longer
    ] in
    let stays = look_past_stays head (length bytes) (length more) ended decided in
    elim (head_alone kind (bytes ++ more) head then.0 on then.1) [
      | inl same ↦
          inl (then.2 ∙ same (length (bytes ++ more)) ended ∙ ap (λ n. look_past head n ended) (length-append bytes more) ∙ stays ∙ sym now.2)
      | inr undecided ↦ inr undecided
    ]
