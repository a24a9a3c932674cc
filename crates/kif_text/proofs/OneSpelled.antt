-- A text that spells one expression is not refused. Any other text is refused.
use Rattle.std.proofs.Common.{◌≡◌, ℕ, zero, suc, ◌+◌, ◌≤◌, List, [], ◌∷◌, length, drop, get_or, Bool, true, false, not, ◌==◌, cond, Result, Ok, Err, refl, sym, ap, subst, ◌∙◌, ◌⊎◌, inl, inr, add-one, arith}
use Rattle.std.proofs.lemmas.Bool.{cases_lt}
use Rattle.game_core.specs.Bytes.{space, is_atom_byte}
use Rattle.game_core.specs.Expression.{Expression, none, more, max_depth}
use Rattle.kif_text.specs.Spelling.{max_length, SpellsOne}
use Rattle.kif_text.specs.Faults.{one_expression, is_inside, bare_from, bare, level, starts, started, IsClear, IsFault}
use Rattle.kif_text.specs.Machine.{State, start, with_word, step, begins_here, run, finish, read_single}
use Rattle.kif_text.specs.Internal.Following.{total}
use Rattle.kif_text.specs.Laws.{HasFault, OneSpelledOrFaulty}
use Rattle.kif_text.specs.declared.fault.KifFault.{KifFault}
use Rattle.kif_text.specs.declared.fault.KifFault.TheVariants.{BadByte, Unopened, TooDeep, Unclosed, Nothing, More, TooLong, Memory}
use Rattle.kif_text.proofs.Advances.{advance, bind_ok, ok_is}
use Rattle.kif_text.proofs.SpelledIsRead.{spelled_read}
use Rattle.kif_text.proofs.FirstFault.{Knows, shown, knows_advance, no_more, run_knows, knows_none, drop_head, drop_none}
use Rattle.kif_text.proofs.Starts.{starts_is, total_advance, word_after}
use Rattle.kif_text.proofs.ReadOne.{finished, single_found, single_fault, single_not_memory}
use Rattle.kif_text.proofs.NeverBoth.{whole, within, too_long}

-- what the reader has counted after i bytes
record Counts (t : List ℕ) (i : ℕ) (s : State) : Type 0 where
  count : started t i ≡ total s
  before : is_atom_byte (get_or (space ∷ t) i 0) ≡ not (length s.word == 0)
  quiet : s.comment ≡ true → s.word ≡ []

counts_run : (bs t : List ℕ) (i : ℕ) (s u : State) → drop i t ≡ bare_from s.comment bs → i ≤ length t → Knows false t i s.levels → Counts t i s → run (step max_depth) s i bs ≡ Ok u → Counts t (length t) u
unfolding run
counts_run [] t i s u d le k c h =
    let past = drop_none i t d in
    let end : i ≡ length t = omega arith in
    subst (Counts t (length t)) (ok_is s u h) (subst (λ (j : ℕ). Counts t j s) end c)
counts_run (b ∷ bs) t i s u d le k c h =
    let at = drop_head i t (shown s.comment b) (bare_from (is_inside s.comment b) bs) d in
    let p = bind_ok (step max_depth s i b) (λ w. run (step max_depth) w (suc i) bs) u h in
    let move = advance max_depth s i b p.0 p.1 in
    let next = knows_advance false t i s p.0 b move at.0 at.1 (no_more t i) k in
    let begin = starts_is false t i s b at.1 k c.before in
    let more_now = total_advance max_depth s p.0 i b move in
    let word = word_after max_depth s p.0 i b move c.quiet in
    let now : Counts t (suc i) p.0 = record {
      count = ap (λ (v : Bool). cond v 1 0 + started t i) begin ∙ ap (λ (n : ℕ). cond (begins_here s b) 1 0 + n) c.count ∙ sym more_now;
      before = ap is_atom_byte at.1 ∙ word.0;
      quiet = word.1;
    } in
    counts_run bs t (i + 1) p.0 u (ap (λ (j : ℕ). drop j t) (add-one i) ∙ at.2 ∙ ap (λ (v : Bool). bare_from v bs) (sym next.1)) (omega (arith, at.0)) next.0 (subst (λ (j : ℕ). Counts t j p.0) (sym (add-one i)) now) (ap (λ (j : ℕ). run (step max_depth) p.0 j bs) (add-one i) ∙ p.2)

started_le : (t : List ℕ) (i j : ℕ) → i ≤ j → started t i ≤ started t j
started_le t i zero le = let e : i ≡ 0 = omega arith in rw e (omega arith)
started_le t i (suc j) le =
    elim (cases_lt i (suc j)) [
      | inl p ↦ omega (arith, started_le t i j (omega arith))
      | inr p ↦ (let e : i ≡ suc j = omega arith in rw e (omega arith))
    ]

twice : (t : List ℕ) (i : ℕ) → starts t i ≡ true → started t (suc i) ≡ suc (started t i)
twice t i h = ap (λ (v : Bool). cond v 1 0 + started t i) h ∙ omega arith

-- a text without a first error that has exactly one expression has no error
clash : (text : List ℕ) (e : KifFault) → length text ≤ max_length → (e ≡ Memory → ⊥) → IsClear false (bare text) (length (bare text)) → level (bare text) (length (bare text)) ≡ 0 → started (bare text) (length (bare text)) ≡ 1 → IsFault true text e → ⊥
clash text (BadByte i) le wanted clear flat n h = clear (BadByte i) h.1.0 (omega (arith, h.1.1.0, h.1.1.1)) h.1.1
clash text (Unopened i) le wanted clear flat n h = clear (Unopened i) h.1.0 (within (bare text) i h.1.0 h.1.1.0 h.1.1.1 (omega arith)) h.1.1
clash text (TooDeep i) le wanted clear flat n h = clear (TooDeep i) h.1.0 (within (bare text) i h.1.0 h.1.1.0 h.1.1.1 (omega arith)) h.1.1
clash text (Unclosed i) le wanted clear flat n h = omega (arith, h.2.0, flat)
clash text Nothing le wanted clear flat n h = omega (arith, h.3.1, n)
clash text (More i) le wanted clear flat n h =
    let s = h.1.1 in
    let two = twice (bare text) i s.3 in
    let below = started_le (bare text) (suc i) (length (bare text)) (omega (arith, s.2)) in
    omega (arith, two, below, s.4, n)
clash text TooLong le wanted clear flat n h = omega (arith, h, le)
clash text Memory le wanted clear flat n h = wanted refl

pub one_not_refused : (text : List ℕ) (x : Expression) → SpellsOne text x → HasFault max_length one_expression text → ⊥
one_not_refused text x spells faulty =
    let readable = spelled_read max_depth text (more x none) spells.spelled (omega (arith, spells.shallow)) in
    let last = bind_ok (run (step max_depth) start 0 text) finish (more x none) readable in
    let s = last.0 in
    let k = run_knows text (bare text) 0 start s refl (omega arith) (knows_none false (bare text)) last.1 in
    let c = counts_run text (bare text) 0 start s refl (omega arith) (knows_none false (bare text)) (record { count = refl; before = refl; quiet = λ z. refl }) last.1 in
    let done = finished s.levels s.here (more x none) s.word last.2 in
    clash text faulty.0 spells.short faulty.1 k.clear (whole text s.levels (with_word s.here s.word) (more x none) k last.2) (omega (arith, c.count, done.0)) faulty.2

by_outcome : (text : List ℕ) (r : Result Expression KifFault) → read_single text ≡ r → length text ≤ max_length → ((x : Expression) × SpellsOne text x) ⊎ HasFault max_length one_expression text
by_outcome text (Ok x) h le = (let found = single_found text x h in inl (x, record { short = le; spelled = found.0; shallow = found.1 }))
by_outcome text (Err e) h le = inr (e, single_not_memory text e le h, single_fault text e le h)

either_one : (text : List ℕ) → ((x : Expression) × SpellsOne text x) ⊎ HasFault max_length one_expression text
either_one text =
    elim (cases_lt max_length (length text)) [ inl p ↦ inr (too_long max_length one_expression text p) | inr p ↦ by_outcome text (read_single text) refl p ]

pub one_spelled_or_faulty : OneSpelledOrFaulty
one_spelled_or_faulty text = record { either = either_one text; not_both = λ spelled faulty. one_not_refused text spelled.0 spelled.1 faulty }
