use Rattle.std.proofs.Common.{◌≡◌, ◌≢◌, IsTrue, ◌↔◌, ◌≤◌, ◌++◌, length, List, sym, ◌∙◌, subst, true≢false}
use Rattle.std.specs.Prelude.{ℕ}
use Rattle.std.proofs.lemmas.Bool.Decides.{Decides-eqb}
use Rattle.std.proofs.lemmas.Slice.Eq.{slice_eq-Decides}
use Rattle.std.proofs.lemmas.Result.{IfOk-weaker}
use Rattle.game_core.specs.Canonical.{IsFoldedText}
use Rattle.match_book.specs.Judgement.{unreadable_text, retired_text, illegal_prefix}
use Rattle.match_book.specs.AnswerReading.{max_reading}
use Rattle.record_reading.specs.RecordParts.{IsErrorText}
use Rattle.record_reading.proofs.ErrorWords.{Names, names_something, named_is_error}
use Rattle.record_reading.proofs.error_texts.is_error_text.Goals as goal

same_rest : (text x rest : List ℕ) → text ≡ illegal_prefix ++ x → text ≡ illegal_prefix ++ rest → x ≡ rest
same_rest text x rest p q = cc

named_only : (text rest : List ℕ) → text ≡ illegal_prefix ++ rest → (x : List ℕ) × Names text x → IsFoldedText rest × (length rest ≤ max_reading)
named_only text rest is (x, named) =
    let same = same_rest text x rest named.named is in
    (subst IsFoldedText same named.is_folded, subst (λ (t : List ℕ). length t ≤ max_reading) same named.short)

pub returns-in-Some : goal.returns-in-Some
returns-in-Some c =
    let text = c.args.text.now in
    let rest = c.in-Some.read.now in
    let named : text ≡ illegal_prefix ++ rest = c.in-Some.ensures in
    let other : text ≢ unreadable_text = λ same. true≢false (sym ((slice_eq-Decides Decides-eqb text unreadable_text c.eq.result c.eq.ensures).1 same) ∙ c.if-eq.false) in
    let active : text ≢ retired_text = λ same. true≢false (sym ((slice_eq-Decides Decides-eqb text retired_text c.eq-2.result c.eq-2.ensures).1 same) ∙ c.if-eq-2.false) in
    let unmarked = sym c.is_some.ensures ∙ c.if-is_some.false in
    IfOk-weaker c.is_folded_text.result (λ b. IsTrue b ↔ (IsFoldedText rest × (length rest ≤ max_reading))) (λ b. IsTrue b ↔ IsErrorText text)
    (λ b tells. (
      λ found. let both = tells.0 found in named_is_error text rest (record { named = named; is_folded = both.0; short = both.1 }),
      λ is_error. tells.1 (named_only text rest named (names_something text c.mark_of.result c.mark_of.ensures unmarked other active is_error)),
    ))
    c.is_folded_text.ensures

pub returns-in-None : goal.returns-in-None
returns-in-None c =
    let text = c.args.text.now in
    let other : text ≢ unreadable_text = λ same. true≢false (sym ((slice_eq-Decides Decides-eqb text unreadable_text c.eq.result c.eq.ensures).1 same) ∙ c.if-eq.false) in
    let active : text ≢ retired_text = λ same. true≢false (sym ((slice_eq-Decides Decides-eqb text retired_text c.eq-2.result c.eq-2.ensures).1 same) ∙ c.if-eq-2.false) in
    let unmarked = sym c.is_some.ensures ∙ c.if-is_some.false in
    (λ no. absurd (true≢false (sym no)), λ is_error. let found = names_something text c.mark_of.result c.mark_of.ensures unmarked other active is_error in absurd (c.in-None.ensures found.0 found.1.named))
