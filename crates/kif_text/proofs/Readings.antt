-- The reading of a text is the expression that the text spells.
use Rattle.std.proofs.Common.{◌≡◌, ℕ, ◌<◌, ◌≤◌, List, length, true, false, nat_le, Result, Ok, Err, Option, Some, None, refl, ap, ◌∙◌, inl, inr, arith}
use Rattle.std.proofs.lemmas.List.{length-map}
use Rattle.std.proofs.lemmas.Bool.Decides.{nat_tests}
use Rattle.std.specs.Result.{result_ok}
use Rattle.game_core.specs.Bytes.{lower}
use Rattle.game_core.specs.Expression.{Expression, none, more, folded, IsProper}
use Rattle.game_core.specs.Canonical.{canonical, IsFoldedText}
use Rattle.kif_text.specs.Spelling.{max_length, SpellsOne}
use Rattle.kif_text.specs.Machine.{read_single}
use Rattle.kif_text.specs.Reading.{reading}
use Rattle.kif_text.specs.Laws.{ReadingIsSpelling, ReadingIsProper, ReadingUnderDouble, CanonicalReadsBack, FoldedTextReadsBack}
use Rattle.kif_text.specs.declared.fault.KifFault.{KifFault}
use Rattle.kif_text.proofs.Advances.{chosen}
use Rattle.kif_text.proofs.SpelledIsRead.{spells_one}
use Rattle.kif_text.proofs.Printed.{canonical_spelled}
use Rattle.kif_text.proofs.ReadOne.{single_found, single_fault, single_not_memory}
use Rattle.kif_text.proofs.OneSpelled.{one_not_refused}
use Rattle.kif_text.proofs.Sizes.{spelled_has_atoms, canonical_under_double}
use Rattle.kif_text.proofs.FoldedTexts.{folding_keeps_proper, folding_twice_is_once, folding_commutes_with_printing}

abbrev some : {A : Type 0} → A → Option A
some x = Some x

abbrev nothing : {A : Type 0} → Option A
nothing = None

none_is_some : {A : Type 0} (x : A) → nothing {A = A} ≡ some x → ⊥
none_is_some x e = cc

some_is : {A : Type 0} (x y : A) → some x ≡ some y → x ≡ y
some_is x y e = cc

found_some : (r : Result Expression KifFault) (x : Expression) → result_ok r ≡ Some x → r ≡ Ok x
found_some (Ok y) x h = ap (λ (z : Expression). Ok z) (some_is y x h)
found_some (Err e) x h = absurd (none_is_some x h)

le_true : (m n : ℕ) → nat_le m n ≡ true → m ≤ n
le_true m n e = grind (arith, nat_tests)

true_le : (m n : ℕ) → m ≤ n → nat_le m n ≡ true
true_le m n le = grind (arith, nat_tests)

false_lt : (m n : ℕ) → n < m → nat_le m n ≡ false
false_lt m n lt = grind (arith, nat_tests)

pub reading_within : (text : List ℕ) → length text ≤ max_length → reading text ≡ result_ok (read_single text)
unfolding reading
reading_within text le = rw (true_le (length text) max_length le) refl

pub reading_past : (text : List ℕ) → max_length < length text → reading text ≡ None
unfolding reading
reading_past text lt = rw (false_lt (length text) max_length lt) refl

pub reading_spelled : (text : List ℕ) (x : Expression) → reading text ≡ Some x → SpellsOne text x
unfolding reading
reading_spelled text x h =
    elim (chosen (nat_le (length text) max_length) _ _ _ h) [
      | inl p ↦ (let spells = single_found text x (found_some (read_single text) x p.1) in
          record { short = le_true (length text) max_length p.0; spelled = spells.0; shallow = spells.1 })
      | inr p ↦ absurd (none_is_some x p.1)
    ]

spelled_found : (text : List ℕ) (x : Expression) (r : Result Expression KifFault) → SpellsOne text x → read_single text ≡ r → result_ok r ≡ Some x
spelled_found text x (Ok y) spells h =
    let other = single_found text y h in
    let one : more y none ≡ more x none = spells_one text (more y none) (more x none) other.0 spells.spelled in
    let same : y ≡ x = cc in
    ap some same
spelled_found text x (Err e) spells h = absurd (one_not_refused text x spells (e, single_not_memory text e spells.short h, single_fault text e spells.short h))

pub spelled_reading : (text : List ℕ) (x : Expression) → SpellsOne text x → reading text ≡ Some x
spelled_reading text x spells = reading_within text spells.short ∙ spelled_found text x (read_single text) spells refl

pub reading_is_spelling : ReadingIsSpelling
reading_is_spelling text x = (reading_spelled text x, spelled_reading text x)

pub reading_proper : (text : List ℕ) (x : Expression) → reading text ≡ Some x → IsProper x
reading_proper text x h =
    let spells = reading_spelled text x h in
    ((spelled_has_atoms text (more x none) spells.spelled).0, spells.shallow)

pub reading_folded : (text : List ℕ) (x : Expression) → reading text ≡ Some x → IsFoldedText (canonical (folded x))
reading_folded text x h = (folded x, folding_keeps_proper x (reading_proper text x h), folding_twice_is_once x, refl)

pub reading_is_proper : ReadingIsProper
reading_is_proper text x h = (reading_proper text x h, reading_folded text x h)

pub reading_under_double : ReadingUnderDouble
reading_under_double text x h =
    let short = canonical_under_double text x (reading_spelled text x h).spelled in
    let same : length (canonical (folded x)) ≡ length (canonical x) = ap length (folding_commutes_with_printing x) ∙ length-map (canonical x) lower in
    (short, omega arith)

pub canonical_reads_back : CanonicalReadsBack
canonical_reads_back x proper le = spelled_reading (canonical x) x (record { short = le; spelled = canonical_spelled x proper.0; shallow = proper.1 })

pub folded_text_reads_back : FoldedTextReadsBack
folded_text_reads_back text is le =
    let short : length (canonical is.0) ≤ max_length = omega (arith, ap length is.3) in
    (is.0, ap reading is.3 ∙ canonical_reads_back is.0 is.1 short, is.1, is.2, is.3)
