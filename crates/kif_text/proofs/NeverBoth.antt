-- A text either spells expressions within the limits or has an error, never both.
use Rattle.std.proofs.Common.{◌≡◌, ℕ, get_or, ◌<◌, ◌≤◌, Bool, List, [], ◌∷◌, length, Result, Ok, Err, refl, sym, subst, ◌∙◌, ◌⊎◌, inl, inr, false, arith}
use Rattle.std.proofs.lemmas.Bool.{cases_lt, true≢false}
use Rattle.std.proofs.lemmas.List.{get_or_past}
use Rattle.game_core.specs.Expression.{Expressions, max_depth}
use Rattle.kif_text.specs.Spelling.{SpellsUpTo}
use Rattle.kif_text.specs.Faults.{any_number, bare, level, IsClear, IsFirst, IsFaultUpTo}
use Rattle.kif_text.specs.Machine.{Open, start, with_word, step, run, finish_on, finish, read}
use Rattle.kif_text.specs.Laws.{HasFault, SpelledOrFaulty}
use Rattle.kif_text.specs.declared.fault.KifFault.{KifFault}
use Rattle.kif_text.specs.declared.fault.KifFault.TheVariants.{BadByte, Unopened, TooDeep, Unclosed, Nothing, More, TooLong, Memory}
use Rattle.kif_text.proofs.Advances.{bind_ok}
use Rattle.kif_text.proofs.ReadIsSpelled.{read_found}
use Rattle.kif_text.proofs.Depth.{read_nests}
use Rattle.kif_text.proofs.SpelledIsRead.{spelled_read}
use Rattle.kif_text.proofs.FirstFault.{Knows, run_knows, knows_none, read_fails, run_fails, open_ends, bind_err}

-- if a text is read, it has no error
pub whole : (text : List ℕ) (ls : List Open) (xs ys : Expressions) → Knows false (bare text) (length (bare text)) ls → finish_on ls xs ≡ Ok ys → level (bare text) (length (bare text)) ≡ 0
whole text [] xs ys k h = omega (arith, k.count)
whole text (l ∷ ls) xs ys k h = absurd cc

-- an offset whose byte is not 0 is within the text
pub within : {v : ℕ} (t : List ℕ) (i at : ℕ) → i ≡ at → get_or t i 0 ≡ v → 0 < v → at < length t
within t i at e h some =
    elim (cases_lt i (length t)) [ inl p ↦ omega arith | inr p ↦ absurd (omega (arith, h, some, get_or_past t i 0 p)) ]

-- a text that has no first error, and whose lists are all closed, has no error
no_fault : (limit : ℕ) (text : List ℕ) (e : KifFault) → length text ≤ limit → IsClear false (bare text) (length (bare text)) → level (bare text) (length (bare text)) ≡ 0 → (e ≡ Memory → ⊥) → IsFaultUpTo limit false text e → ⊥
no_fault limit text (BadByte i) le clear flat wanted h = clear (BadByte i) h.1.0 (omega (arith, h.1.1.0, h.1.1.1)) h.1.1
no_fault limit text (Unopened i) le clear flat wanted h = clear (Unopened i) h.1.0 (within (bare text) i h.1.0 h.1.1.0 h.1.1.1 (omega arith)) h.1.1
no_fault limit text (TooDeep i) le clear flat wanted h = clear (TooDeep i) h.1.0 (within (bare text) i h.1.0 h.1.1.0 h.1.1.1 (omega arith)) h.1.1
no_fault limit text (Unclosed i) le clear flat wanted h = omega (arith, h.2.0, flat)
no_fault limit text Nothing le clear flat wanted h = true≢false (sym h.1)
no_fault limit text (More i) le clear flat wanted h = true≢false (sym h.1.1.0)
no_fault limit text TooLong le clear flat wanted h = omega (arith, h, le)
no_fault limit text Memory le clear flat wanted h = wanted refl

unclosed_not_memory : (i : ℕ) → Unclosed i ≡ Memory → ⊥
unclosed_not_memory i e = cc

-- the machine's steps never run out of memory
not_memory : (text : List ℕ) (e : KifFault) → read max_depth text ≡ Err e → e ≡ Memory → ⊥
not_memory text e h is =
    elim (bind_err (run (step max_depth) start 0 text) finish e h) [
      | inl p ↦ (subst (IsFirst false (bare text)) is (run_fails text (bare text) 0 start e refl (knows_none false (bare text)) p)).1
      | inr p ↦ (let s = p.0 in
          let k = run_knows text (bare text) 0 start s refl (omega arith) (knows_none false (bare text)) p.1 in
          let u = open_ends false (bare text) s.levels (with_word s.here s.word) e k p.2 in
          unclosed_not_memory u.0.at (sym u.1 ∙ is))
    ]

by_outcome : (limit : ℕ) (text : List ℕ) (r : Result Expressions KifFault) → read max_depth text ≡ r → length text ≤ limit → ((xs : Expressions) × SpellsUpTo limit text xs) ⊎ HasFault limit any_number text
by_outcome limit text (Ok xs) h le = inl (xs, record { short = le; spelled = read_found max_depth text xs h; shallow = read_nests max_depth text xs h })
by_outcome limit text (Err e) h le = inr (e, not_memory text e h, read_fails limit text e le h)

too_long_not_memory : TooLong ≡ Memory → ⊥
too_long_not_memory e = cc

pub too_long : (limit : ℕ) (one : Bool) (text : List ℕ) → limit < length text → HasFault limit one text
too_long limit one text lt = (TooLong, too_long_not_memory, lt)

either_all : (limit : ℕ) (text : List ℕ) → ((xs : Expressions) × SpellsUpTo limit text xs) ⊎ HasFault limit any_number text
either_all limit text =
    elim (cases_lt limit (length text)) [ inl p ↦ inr (too_long limit any_number text p) | inr p ↦ by_outcome limit text (read max_depth text) refl p ]

pub all_not_refused : (limit : ℕ) (text : List ℕ) (xs : Expressions) → SpellsUpTo limit text xs → HasFault limit any_number text → ⊥
all_not_refused limit text xs spells faulty =
    let h = spelled_read max_depth text xs spells.spelled spells.shallow in
    let last = bind_ok (run (step max_depth) start 0 text) finish xs h in
    let s = last.0 in
    let k = run_knows text (bare text) 0 start s refl (omega arith) (knows_none false (bare text)) last.1 in
    no_fault limit text faulty.0 spells.short k.clear (whole text s.levels (with_word s.here s.word) xs k last.2) faulty.1 faulty.2

pub spelled_or_faulty : SpelledOrFaulty
spelled_or_faulty limit text = record { either = either_all limit text; not_both = λ spelled faulty. all_not_refused limit text spelled.0 spelled.1 faulty }
