-- The texts that the reader of one expression accepts, and the errors that it reports for all other texts.
use Rattle.std.proofs.Common.{◌≡◌, ℕ, suc, ◌+◌, ◌<◌, ◌≤◌, List, [], ◌∷◌, length, drop, get_or, Bool, true, false, Ok, Err, refl, sym, ap, subst, ◌∙◌, inl, inr, add-one, arith}
use Rattle.game_core.specs.Expression.{Expression, Expressions, none, more, depth, max_depth}
use Rattle.kif_text.specs.Spelling.{SpellsText, max_length}
use Rattle.kif_text.specs.Faults.{is_inside, bare_from, bare, level, starts, started, StandsAt, IsClear, IsFirst, IsFault}
use Rattle.kif_text.specs.Machine.{Open, State, start, ◌>>=◌, with_word, step, count_of, is_second, one_step, run, finish_on, finish, read, last_of, read_single}
use Rattle.kif_text.specs.Internal.Following.{total_on}
use Rattle.kif_text.specs.declared.fault.KifFault.{KifFault}
use Rattle.kif_text.specs.declared.fault.KifFault.TheVariants.{BadByte, Unopened, TooDeep, Unclosed, Nothing, More, TooLong, Memory}
use Rattle.kif_text.proofs.Advances.{advance, bind_ok, chosen, good, ok_is}
use Rattle.kif_text.proofs.ReadIsSpelled.{read_found}
use Rattle.kif_text.proofs.Depth.{read_nests}
use Rattle.kif_text.proofs.FirstFault.{Knows, shown, knows_advance, step_fails, knows_none, drop_head, drop_none, bind_err, open_ends, length_bare, err_is, ok_not_err}
use Rattle.kif_text.proofs.Starts.{KnowsOne, starts_is, second_is, first_is, one_advance}

-- if a step of this reader succeeds, the same step of the reader of any number of expressions succeeds
plain : (limit : ℕ) (s : State) (i b : ℕ) (t : State) → one_step limit s i b ≡ Ok t → (is_second s b ≡ false) × (step limit s i b ≡ Ok t)
plain limit s i b t h =
    elim (chosen (is_second s b) _ _ _ h) [
      | inl p ↦ absurd (ok_not_err t (More i) (sym p.1))
      | inr p ↦ p
    ]

run_plain : (bs : List ℕ) (limit : ℕ) (s t : State) (i : ℕ) → run (one_step limit) s i bs ≡ Ok t → run (step limit) s i bs ≡ Ok t
unfolding run
run_plain [] limit s t i h = h
run_plain (b ∷ bs) limit s t i h =
    let first = bind_ok (one_step limit s i b) (λ u. run (one_step limit) u (suc i) bs) t h in
    ap (λ r. r >>= λ u. run (step limit) u (suc i) bs) (plain limit s i b first.0 first.1).1 ∙ run_plain bs limit first.0 t (suc i) first.2

no_second : (t : List ℕ) (i : ℕ) (s : State) (b : ℕ) → get_or t i 0 ≡ shown s.comment b → Knows true t i s.levels → KnowsOne t i s → is_second s b ≡ false → (k : ℕ) → StandsAt true t (More k) i → ⊥
no_second t i s b is k one clear n h =
    let at = subst (λ (m : ℕ). (starts t m ≡ true) × (started t m ≡ 1)) h.1 (h.3, h.4) in
    let zero_now = first_is s b clear (sym (starts_is true t i s b is k one.before) ∙ at.0) in
    omega (arith, at.1, one.count, zero_now)

both_at : (t : List ℕ) (i : ℕ) (s u : State) (b : ℕ) → i < length t → get_or t i 0 ≡ shown s.comment b → Knows true t i s.levels → KnowsOne t i s → one_step max_depth s i b ≡ Ok u
    → Knows true t (i + 1) u.levels × KnowsOne t (i + 1) u × (u.comment ≡ is_inside s.comment b)
both_at t i s u b lt is k one h =
    let p = plain max_depth s i b u h in
    let move = advance max_depth s i b u p.1 in
    let next = knows_advance true t i s u b move lt is (no_second t i s b is k one p.0) k in
    (next.0, subst (λ (j : ℕ). KnowsOne t j u) (sym (add-one i)) (one_advance t i s u b move is k p.0 one), next.1)

-- if a run succeeds, there is no error so far
pub single_knows : (bs t : List ℕ) (i : ℕ) (s u : State) → drop i t ≡ bare_from s.comment bs → i ≤ length t → Knows true t i s.levels → KnowsOne t i s → run (one_step max_depth) s i bs ≡ Ok u → Knows true t (length t) u.levels × KnowsOne t (length t) u
unfolding run
single_knows [] t i s u d le k one h =
    let past = drop_none i t d in
    let end : i ≡ length t = omega arith in
    let P : State → Type 0 = λ w. Knows true t (length t) w.levels × KnowsOne t (length t) w in
    subst P (ok_is s u h) (subst (λ (j : ℕ). Knows true t j s.levels × KnowsOne t j s) end (k, one))
single_knows (b ∷ bs) t i s u d le k one h =
    let at = drop_head i t (shown s.comment b) (bare_from (is_inside s.comment b) bs) d in
    let p = bind_ok (one_step max_depth s i b) (λ w. run (one_step max_depth) w (suc i) bs) u h in
    let next = both_at t i s p.0 b at.0 at.1 k one p.1 in
    single_knows bs t (i + 1) p.0 u (ap (λ (j : ℕ). drop j t) (add-one i) ∙ at.2 ∙ ap (λ (v : Bool). bare_from v bs) (sym next.2)) (omega (arith, at.0)) next.0 next.1 (ap (λ (j : ℕ). run (one_step max_depth) p.0 j bs) (add-one i) ∙ p.2)

one_fails : (t : List ℕ) (i : ℕ) (s : State) (b : ℕ) (e : KifFault) → i < length t → get_or t i 0 ≡ shown s.comment b → Knows true t i s.levels → KnowsOne t i s → one_step max_depth s i b ≡ Err e → StandsAt true t e i
one_fails t i s b e lt is k one h =
    elim (chosen (is_second s b) _ _ _ h) [
      | inl p ↦ (let second = second_is s b p.0 in
          subst (λ (d : KifFault). StandsAt true t d i) (err_is (More i) e p.1) (refl, refl, lt, starts_is true t i s b is k one.before ∙ second.0, omega (arith, one.count, one.few, second.1)))
      | inr p ↦ step_fails true t i s b e lt is k p.1
    ]

pub single_fails : (bs t : List ℕ) (i : ℕ) (s : State) (e : KifFault) → drop i t ≡ bare_from s.comment bs → Knows true t i s.levels → KnowsOne t i s → run (one_step max_depth) s i bs ≡ Err e → IsFirst true t e
unfolding run
single_fails [] t i s e d k one h = absurd (ok_not_err s e h)
single_fails (b ∷ bs) t i s e d k one h =
    let at = drop_head i t (shown s.comment b) (bare_from (is_inside s.comment b) bs) d in
    elim (bind_err (one_step max_depth s i b) (λ u. run (one_step max_depth) u (suc i) bs) e h) [
      | inl p ↦ (i, one_fails t i s b e at.0 at.1 k one p, k.clear)
      | inr p ↦ (let u = p.0 in
          let next = both_at t i s u b at.0 at.1 k one p.1 in
          single_fails bs t (i + 1) u e (ap (λ (j : ℕ). drop j t) (add-one i) ∙ at.2 ∙ ap (λ (v : Bool). bare_from v bs) (sym next.2)) next.0 next.1 (ap (λ (j : ℕ). run (one_step max_depth) u j bs) (add-one i) ∙ p.2))
    ]

pub one_none : (t : List ℕ) → KnowsOne t 0 start
one_none t = record { count = refl; few = omega arith; before = refl; quiet = λ z. refl }

pub finished : (ls : List Open) (here all : Expressions) (word : List ℕ) → finish_on ls (with_word here word) ≡ Ok all → (count_of all ≡ total_on ls here word) × (ls ≡ [])
finished [] here all word h = (ap count_of (sym (ok_is _ all h)), refl)
finished (l ∷ ls) here all word h = absurd cc

last_is : (all : Expressions) (x : Expression) → count_of all ≤ 1 → last_of all ≡ Ok x → all ≡ more x none
last_is none x le h = absurd cc
last_is (more y none) x le h = ap (λ (z : Expression). more z none) (ok_is y x h)
last_is (more y (more z zs)) x le h = absurd (omega (arith, le))

pub single_found : (text : List ℕ) (x : Expression) → read_single text ≡ Ok x → SpellsText text (more x none) × (depth x ≤ max_depth)
single_found text x h =
    let last = bind_ok (run (one_step max_depth) start 0 text >>= finish) last_of x h in
    let all = last.0 in
    let first = bind_ok (run (one_step max_depth) start 0 text) finish all last.1 in
    let s = first.0 in
    let know = single_knows text (bare text) 0 start s refl (omega arith) (knows_none true (bare text)) (one_none (bare text)) first.1 in
    let done = finished s.levels s.here all s.word first.2 in
    let one : all ≡ more x none = last_is all x (omega (arith, done.0, know.1.few)) last.2 in
    let readable : read max_depth text ≡ Ok (more x none) = ap (λ r. r >>= finish) (run_plain text max_depth start s 0 first.1) ∙ first.2 ∙ ap good one in
    let deep = read_nests max_depth text (more x none) readable in
    (read_found max_depth text (more x none) readable, omega (arith, deep))

first_fault : (text : List ℕ) (e : KifFault) → length text ≤ max_length → IsFirst true (bare text) e → IsFault true text e
first_fault text (BadByte i) le h = (le, h)
first_fault text (Unopened i) le h = (le, h)
first_fault text (TooDeep i) le h = (le, h)
first_fault text (Unclosed i) le h = absurd h.1
first_fault text Nothing le h = absurd h.1
first_fault text (More i) le h = (le, h)
first_fault text TooLong le h = absurd h.1
first_fault text Memory le h = le

not_none : {A : Type 0} {n : ℕ} → A × (suc n ≡ 0) → ⊥
not_none h = omega (arith, h.1)

none_last : (all : Expressions) (e : KifFault) → last_of all ≡ Err e → (e ≡ Nothing) × (count_of all ≡ 0)
none_last none e h = (let same : Nothing ≡ e = cc in sym same, refl)
none_last (more x none) e h = absurd cc
none_last (more x (more y ys)) e h = absurd (not_none (none_last (more y ys) e h))

-- if the reader refuses a text with an error, the text has that error
pub single_fault : (text : List ℕ) (e : KifFault) → length text ≤ max_length → read_single text ≡ Err e → IsFault true text e
single_fault text e le h =
    let t = bare text in
    elim (bind_err (run (one_step max_depth) start 0 text >>= finish) last_of e h) [
      | inl q ↦ elim (bind_err (run (one_step max_depth) start 0 text) finish e q) [
        | inl p ↦ first_fault text e le (single_fails text (bare text) 0 start e refl (knows_none true (bare text)) (one_none (bare text)) p)
        | inr p ↦ (let s = p.0 in
            let know = single_knows text (bare text) 0 start s refl (omega arith) (knows_none true (bare text)) (one_none (bare text)) p.1 in
            let u = open_ends true (bare text) s.levels (with_word s.here s.word) e know.0 p.2 in
            subst (IsFault true text) (sym u.1) (le, subst (IsClear true (bare text)) (length_bare text false) know.0.clear, u.2))
      ]
      | inr q ↦ (let all = q.0 in
          let first = bind_ok (run (one_step max_depth) start 0 text) finish all q.1 in
          let s = first.0 in
          let know = single_knows text (bare text) 0 start s refl (omega arith) (knows_none true (bare text)) (one_none (bare text)) first.1 in
          let done = finished s.levels s.here all s.word first.2 in
          let empty = none_last all e q.2 in
          let n = length_bare text false in
          let flat : level (bare text) (length (bare text)) ≡ 0 = omega (arith, know.0.count, ap length done.1) in
          let never : started (bare text) (length (bare text)) ≡ 0 = omega (arith, know.1.count, done.0, empty.1) in
          subst (IsFault true text) (sym empty.0) (le, refl, subst (IsClear true (bare text)) n know.0.clear, (flat, never)))
    ]

unclosed_not_memory : (at : ℕ) → Unclosed at ≡ Memory → ⊥
unclosed_not_memory at e = cc

nothing_not_memory : Nothing ≡ Memory → ⊥
nothing_not_memory e = cc

-- the machine's steps never run out of memory
pub single_not_memory : (text : List ℕ) (e : KifFault) → length text ≤ max_length → read_single text ≡ Err e → e ≡ Memory → ⊥
single_not_memory text e le h is =
    elim (bind_err (run (one_step max_depth) start 0 text >>= finish) last_of e h) [
      | inl q ↦ elim (bind_err (run (one_step max_depth) start 0 text) finish e q) [
        | inl p ↦ (subst (IsFirst true (bare text)) is (single_fails text (bare text) 0 start e refl (knows_none true (bare text)) (one_none (bare text)) p)).1
        | inr p ↦ (let s = p.0 in
            let know = single_knows text (bare text) 0 start s refl (omega arith) (knows_none true (bare text)) (one_none (bare text)) p.1 in
            let u = open_ends true (bare text) s.levels (with_word s.here s.word) e know.0 p.2 in
            unclosed_not_memory u.0.at (sym u.1 ∙ is))
      ]
      | inr q ↦ nothing_not_memory (sym (none_last q.0 e q.2).0 ∙ is)
    ]
