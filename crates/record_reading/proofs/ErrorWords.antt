-- The tests accept exactly the texts that are errors, and exactly the lower-case texts.
use Rattle.std.proofs.Common.{◌≡◌, ◌≢◌, ℕ, ◌≤◌, Bool, true, false, Option, Some, None, List, [], ◌++◌, length, IsTrue, ◌↔◌, inl, inr, sym, ap, ◌∙◌, subst, arith, Decides}
use Rattle.std.specs.Prelude.{is_some}
use Rattle.game_core.specs.Canonical.{canonical, IsFoldedText}
use Rattle.game_core.specs.Expression.{Expression, folded}
use Rattle.kif_text.specs.Laws.{FoldedTextReadsBack, ReadingIsProper}
use Rattle.kif_text.specs.Reading.{reading}
use Rattle.kif_text.specs.Spelling.{max_length}
use Rattle.match_book.specs.AnswerReading.{max_reading}
use Rattle.match_book.specs.Marks.{mark_text}
use Rattle.match_book.specs.declared.answer.Mark.{Mark}
use Rattle.match_book.specs.declared.answer.Mark.TheVariants.{Clear, TimeOut, ConnectionError}
use Rattle.match_book.specs.Judgement.{error_text, unreadable_text, retired_text, illegal_prefix}
use Rattle.match_book.specs.declared.judgement.Substitution.{Substitution}
use Rattle.match_book.specs.declared.judgement.Substitution.TheVariants.{TimeOut as ForTimeOut, ConnectionError as ForConnectionError, Unreadable, Illegal, Retired}
use Rattle.record_reading.specs.RecordParts.{IsErrorText, MayBeGiven}
use Rattle.record_reading.specs.Internal.Shown.{Shows, AnyShape}

-- the text is the error of an illegal answer with the reading x
pub record Names (text x : List ℕ) : Type 0 where
  pub named : text ≡ illegal_prefix ++ x
  pub is_folded : IsFoldedText x
  pub short : length x ≤ max_reading

pub named_is_error : (text x : List ℕ) → Names text x → IsErrorText text
named_is_error text x named = inr (Illegal x, named.named, (named.is_folded, named.short))

no_mark : (text : List ℕ) (o : Option Mark) (m : Mark) → Shows mark_text AnyShape (Some text) o → is_some o ≡ false → text ≡ mark_text m → ⊥
no_mark text None m shown is same = shown m (ap Some same) tt
no_mark text (Some x) m shown is same = cc

named_why : (text : List ℕ) (o : Option Mark) → Shows mark_text AnyShape (Some text) o → is_some o ≡ false → text ≢ unreadable_text → text ≢ retired_text → (why : Substitution) → text ≡ error_text why → MayBeGiven why → (x : List ℕ) × Names text x
named_why text o shown is other active ForTimeOut same may = absurd (no_mark text o TimeOut shown is same)
named_why text o shown is other active ForConnectionError same may = absurd (no_mark text o ConnectionError shown is same)
named_why text o shown is other active Unreadable same may = absurd (other same)
named_why text o shown is other active Retired same may = absurd (active same)
named_why text o shown is other active (Illegal x) same may = (x, record { named = same; is_folded = may.0; short = may.1 })

pub names_something : (text : List ℕ) (o : Option Mark) → Shows mark_text AnyShape (Some text) o → is_some o ≡ false → text ≢ unreadable_text → text ≢ retired_text → IsErrorText text → (x : List ℕ) × Names text x
names_something text o shown is other active (inl empty) = absurd (no_mark text o Clear shown is empty)
names_something text o shown is other active (inr (why, same, may)) = named_why text o shown is other active why same may

fits : (n : ℕ) → n ≤ max_reading → n ≤ max_length
fits n short = omega arith

pub folded_where_printed : ReadingIsProper → FoldedTextReadsBack → (text : List ℕ) (x : Expression) (b : Bool) → length text ≤ max_reading → reading text ≡ Some x → Decides b (canonical (folded x) ≡ text) → IsTrue b ↔ (IsFoldedText text × (length text ≤ max_reading))
folded_where_printed proper reads_back text x b short is decides = (to, from)
  where
    to : IsTrue b → IsFoldedText text × (length text ≤ max_reading)
    to printed = (subst IsFoldedText (decides.0 printed) (proper text x is).1, short)

    from : IsFoldedText text × (length text ≤ max_reading) → IsTrue b
    from both =
        let back = reads_back text both.0 (fits (length text) short) in
        let same : back.0 ≡ x = cc in
        decides.1 (ap (λ y. canonical (folded y)) (sym same) ∙ ap canonical back.3 ∙ sym back.4)

pub unread_is_not_folded : FoldedTextReadsBack → (text : List ℕ) → length text ≤ max_reading → reading text ≡ None → IsFoldedText text → ⊥
unread_is_not_folded reads_back text short is folded_text =
    let back = reads_back text folded_text (fits (length text) short) in
    absurd cc
