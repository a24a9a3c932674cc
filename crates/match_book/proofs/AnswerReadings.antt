-- Readings of answers.
use Rattle.std.proofs.Common.{◌≡◌, ℕ, ◌≤◌, Bool, true, false, Option, Some, None, List, length, refl, ap, subst, arith}
use Rattle.std.proofs.lemmas.Bool.Decides.{nat_tests}
use Rattle.std.specs.Prelude.{if◌then◌else◌, nat_le, option_map}
use Rattle.game_core.specs.Expression.{Expression, folded}
use Rattle.game_core.specs.Canonical.{canonical, IsFoldedText}
use Rattle.kif_text.specs.Reading.{reading}
use Rattle.kif_text.specs.Laws.{ReadingIsProper, ReadingUnderDouble}
use Rattle.match_book.specs.AnswerReading.{answer_reading, max_answer}
use Rattle.match_book.specs.Laws.{ReadingsAreFolded}

within : (text : List ℕ) → nat_le (length text) max_answer ≡ true → length text ≤ max_answer
within text e = grind (arith, nat_tests)

read_from : (text x : List ℕ) → answer_reading text ≡ Some x → (length text ≤ max_answer) × (y : Expression) × (reading text ≡ Some y) × (canonical (folded y) ≡ x)
unfolding answer_reading
read_from text x e = step (nat_le (length text) max_answer) refl (reading text) refl e
  where
    step : (b : Bool) → nat_le (length text) max_answer ≡ b → (o : Option Expression) → reading text ≡ o → (if b then option_map (λ y. canonical (folded y)) o else None) ≡ Some x
        → (length text ≤ max_answer) × (y : Expression) × (reading text ≡ Some y) × (canonical (folded y) ≡ x)
    step true short None read e = absurd cc
    step true short (Some y) read e = (within text short, y, read, cc)
    step false long o read e = absurd cc

-- a reading is a lower-case text, at most twice as long as the longest answer
pub readings_are_folded : ReadingIsProper → ReadingUnderDouble → ReadingsAreFolded
readings_are_folded proper under text x e =
    let from = read_from text x e in
    let less = (under text from.1 from.2).1 in
    let same : length (canonical (folded from.1)) ≡ length x = ap length from.3 in
    let short = from.0 in
    (subst IsFoldedText from.3 (proper text from.1 from.2).1, omega arith)
