-- The reader stops at the first error of the text.
use Rattle.std.proofs.Common.{◌≡◌, ℕ, zero, suc, ◌+◌, ◌<◌, ◌≤◌, List, [], ◌∷◌, length, drop, get_or, Bool, true, false, not, ◌||◌, ◌==◌, nat_le, cond, Result, Ok, Err, refl, sym, ap, subst, ◌∙◌, ◌⊎◌, inl, inr, add-one, arith}
use Rattle.std.proofs.lemmas.List.Sums.{count_by_more_no, count_by_more_yes}
use Rattle.std.proofs.lemmas.Bool.{eqb-true, eqb-false, ne_eqb, eq-eqb, cases_lt, true≢false}
use Rattle.std.proofs.lemmas.Bool.Decides.{nat_tests}
use Rattle.game_core.specs.Bytes.{line_feed, space, left_parenthesis, right_parenthesis, semicolon, is_white, is_atom_byte}
use Rattle.game_core.specs.Expression.{Expressions, max_depth}
use Rattle.kif_text.specs.Faults.{is_inside, bare_from, bare, is_known, opened, closed, level, StandsAt, IsClear, IsFirst, StaysOpen, IsUnclosed, IsFaultUpTo}
use Rattle.kif_text.specs.Machine.{Open, State, start, ◌>>=◌, with_word, flushed, close_on, act, step, run, finish_on, finish, read}
use Rattle.kif_text.specs.declared.fault.KifFault.{KifFault}
use Rattle.kif_text.specs.declared.fault.KifFault.TheVariants.{BadByte, Unopened, TooDeep, Unclosed, Nothing, More, TooLong, Memory}
use Rattle.kif_text.proofs.Advances.{Advance, in_comment, in_word, begins_comment, opens, closes, is_space, advance, bind_ok, chosen, good, bad, ok_is}

-- for each open list, innermost first: its parenthesis is at its offset, and the level has stayed above the level at that offset since then
abbrev pub Opened : List ℕ → ℕ → List Open → Type 0
Opened t i [] = Unit {0}
Opened t i (l ∷ ls) = (l.at < i) × (get_or t l.at 0 ≡ left_parenthesis) × (level t l.at ≡ length ls) × ((j : ℕ) → l.at < j → j ≤ i → length ls < level t j) × Opened t i ls

-- after i bytes with these open lists, the level is the number of open lists, and there is no error so far
pub record Knows (one : Bool) (t : List ℕ) (i : ℕ) (ls : List Open) : Type 0 where
  pub count : opened t i ≡ closed t i + length ls
  pub few : length ls ≤ max_depth
  pub clear : IsClear one t i
  pub lists : Opened t i ls

lists_more : (t : List ℕ) (i : ℕ) (ls : List Open) → Opened t i ls → length ls ≤ level t (i + 1) → Opened t (i + 1) ls
lists_more t i [] h le = tt
lists_more t i (l ∷ ls) h le = (
  omega (arith, h.0),
  h.1,
  h.2,
  λ j lt before. elim (cases_lt j (i + 1)) [
    | inl p ↦ h.3 j lt (omega arith)
    | inr p ↦ (let e : j ≡ i + 1 = omega arith in rw e (omega arith))
  ],
  lists_more t i ls h.4 (omega arith),
)

-- if the byte at an offset is allowed there, there is no error at that offset
not_here : (one : Bool) (t : List ℕ) (i : ℕ) (e : KifFault) → is_known (get_or t i 0) ≡ true → (get_or t i 0 ≡ right_parenthesis → 0 < level t i) → (get_or t i 0 ≡ left_parenthesis → level t i < max_depth) → ((k : ℕ) → StandsAt one t (More k) i → ⊥) → StandsAt one t e i → ⊥
not_here one t i (BadByte k) known up down m h = true≢false (sym known ∙ subst (λ (x : ℕ). is_known (get_or t x 0) ≡ false) h.0 h.2)
not_here one t i (Unopened k) known up down m h =
    let at = subst (λ (x : ℕ). (get_or t x 0 ≡ right_parenthesis) × (level t x ≡ 0)) h.0 (h.1, h.2) in
    let lt = up at.0 in
    omega (arith, at.1, lt)
not_here one t i (TooDeep k) known up down m h =
    let at = subst (λ (x : ℕ). (get_or t x 0 ≡ left_parenthesis) × (level t x ≡ max_depth)) h.0 (h.1, h.2) in
    let lt = down at.0 in
    omega (arith, at.1, lt)
not_here one t i (Unclosed k) known up down m h = h
not_here one t i Nothing known up down m h = h
not_here one t i (More k) known up down m h = m k h
not_here one t i TooLong known up down m h = h
not_here one t i Memory known up down m h = h

clear_more : (one : Bool) (t : List ℕ) (i : ℕ) → IsClear one t i → ((e : KifFault) → StandsAt one t e i → ⊥) → IsClear one t (i + 1)
clear_more one t i h here e k lt stands =
    elim (cases_lt k i) [
      | inl p ↦ h e k p stands
      | inr p ↦ (let is : k ≡ i = omega arith in here e (subst (StandsAt one t e) is stands))
    ]

knows_same : (one : Bool) (t : List ℕ) (i : ℕ) (ls : List Open) (x : ℕ) → i < length t → get_or t i 0 ≡ x → is_known x ≡ true → (x == left_parenthesis) ≡ false → (x == right_parenthesis) ≡ false → ((k : ℕ) → StandsAt one t (More k) i → ⊥) → Knows one t i ls → Knows one t (i + 1) ls
knows_same one t i ls x lt is known no_open no_close m k =
    let o : opened t (i + 1) ≡ opened t i = count_by_more_no (λ b. b == left_parenthesis) t i 0 lt (ap (λ (b : ℕ). b == left_parenthesis) is ∙ no_open) in
    let c : closed t (i + 1) ≡ closed t i = count_by_more_no (λ b. b == right_parenthesis) t i 0 lt (ap (λ (b : ℕ). b == right_parenthesis) is ∙ no_close) in
    let known' : is_known (get_or t i 0) ≡ true = ap is_known is ∙ known in
    record {
      count = omega (arith, o, c, k.count);
      few = k.few;
      clear = clear_more one t i k.clear (λ e. not_here one t i e known' (λ w. absurd (eqb-false x right_parenthesis no_close (sym is ∙ w))) (λ w. absurd (eqb-false x left_parenthesis no_open (sym is ∙ w))) m);
      lists = lists_more t i ls k.lists (omega (arith, o, c, k.count));
    }

not_both : (a : ℕ) → a ≡ left_parenthesis → a ≡ right_parenthesis → ⊥
not_both a e d = omega arith

knows_open : (one : Bool) (t : List ℕ) (i : ℕ) (ls : List Open) (before : Expressions) → i < length t → get_or t i 0 ≡ left_parenthesis → length ls < max_depth → ((k : ℕ) → StandsAt one t (More k) i → ⊥) → Knows one t i ls → Knows one t (i + 1) (record { before = before; at = i } ∷ ls)
knows_open one t i ls before lt is few m k =
    let o : opened t (i + 1) ≡ opened t i + 1 = count_by_more_yes (λ b. b == left_parenthesis) t i 0 lt (eq-eqb _ left_parenthesis is) in
    let c : closed t (i + 1) ≡ closed t i = count_by_more_no (λ b. b == right_parenthesis) t i 0 lt (ap (λ (b : ℕ). b == right_parenthesis) is) in
    let known : is_known (get_or t i 0) ≡ true = ap is_known is in
    record {
      count = omega (arith, o, c, k.count);
      few = omega arith;
      clear = clear_more one t i k.clear (λ e. not_here one t i e known (λ w. absurd (not_both _ is w)) (λ w. omega (arith, k.count)) m);
      lists = (omega arith, is, omega (arith, k.count), λ j low high. (let e : j ≡ i + 1 = omega arith in rw e (omega (arith, o, c, k.count))), lists_more t i ls k.lists (omega (arith, o, c, k.count)));
    }

knows_close : (one : Bool) (t : List ℕ) (i : ℕ) (l : Open) (ls : List Open) → i < length t → get_or t i 0 ≡ right_parenthesis → ((k : ℕ) → StandsAt one t (More k) i → ⊥) → Knows one t i (l ∷ ls) → Knows one t (i + 1) ls
knows_close one t i l ls lt is m k =
    let o : opened t (i + 1) ≡ opened t i = count_by_more_no (λ b. b == left_parenthesis) t i 0 lt (ap (λ (b : ℕ). b == left_parenthesis) is) in
    let c : closed t (i + 1) ≡ closed t i + 1 = count_by_more_yes (λ b. b == right_parenthesis) t i 0 lt (eq-eqb _ right_parenthesis is) in
    let known : is_known (get_or t i 0) ≡ true = ap is_known is in
    record {
      count = omega (arith, o, c, k.count);
      few = omega (arith, k.few);
      clear = clear_more one t i k.clear (λ e. not_here one t i e known (λ w. omega (arith, k.count)) (λ w. absurd (not_both _ w is)) m);
      lists = lists_more t i ls k.lists.4 (omega (arith, o, c, k.count));
    }

-- the byte that the bare text has instead of b
abbrev pub shown : Bool → ℕ → ℕ
shown before b = cond (is_inside before b) space b

pub differs : (p : ℕ → Bool) (b v : ℕ) → p b ≡ true → p v ≡ false → (b == v) ≡ false
differs p b v h k = ne_eqb b v (λ e. true≢false (sym h ∙ ap p e ∙ k))

-- a byte that changes no level and is not an error
abbrev pub IsNeutral : ℕ → Type 0
IsNeutral x = (is_known x ≡ true) × ((x == left_parenthesis) ≡ false) × ((x == right_parenthesis) ≡ false)

or_left : (x y : Bool) → x ≡ true → (x || y) ≡ true
or_left x y h = rw h refl

or_right : (x y : Bool) → y ≡ true → (x || y) ≡ true
or_right true y h = refl
or_right false y h = h

neutral_white : (b : ℕ) → is_white b ≡ true → IsNeutral b
neutral_white b h = (or_left _ (b == right_parenthesis) (or_left _ (b == left_parenthesis) (or_left (is_white b) (is_atom_byte b) h)), differs is_white b left_parenthesis h refl, differs is_white b right_parenthesis h refl)

neutral_atom : (b : ℕ) → is_atom_byte b ≡ true → IsNeutral b
neutral_atom b h = (or_left _ (b == right_parenthesis) (or_left _ (b == left_parenthesis) (or_right (is_white b) (is_atom_byte b) h)), differs is_atom_byte b left_parenthesis h refl, differs is_atom_byte b right_parenthesis h refl)

pub neutral_comment : (b : ℕ) (v : Bool) → (b == line_feed) ≡ v → IsNeutral (cond (not v) space b)
neutral_comment b true e = subst IsNeutral (sym (eqb-true b line_feed e)) (refl, refl, refl)
neutral_comment b false e = (refl, refl, refl)

inside_plain : (b : ℕ) → (b == semicolon) ≡ false → is_inside false b ≡ false
inside_plain b h = rw h refl

shown_plain : (b : ℕ) → (b == semicolon) ≡ false → shown false b ≡ b
shown_plain b h = ap (λ (v : Bool). cond v space b) (inside_plain b h)

pub shown_at : (s : State) (b : ℕ) → s.comment ≡ false → (b == semicolon) ≡ false → (shown s.comment b ≡ b) × (is_inside s.comment b ≡ false)
shown_at s b c h = (ap (λ (v : Bool). shown v b) c ∙ shown_plain b h, ap (λ (v : Bool). is_inside v b) c ∙ inside_plain b h)

neutral_more : (one : Bool) (t : List ℕ) (i : ℕ) (ls : List Open) (x : ℕ) → i < length t → get_or t i 0 ≡ x → IsNeutral x → ((k : ℕ) → StandsAt one t (More k) i → ⊥) → Knows one t i ls → Knows one t (i + 1) ls
neutral_more one t i ls x lt is n m k = knows_same one t i ls x lt is n.0 n.1 n.2 m k

-- a successful step keeps `Knows`
pub knows_advance : (one : Bool) (t : List ℕ) (i : ℕ) (s u : State) (b : ℕ) → Advance max_depth s u i b → i < length t → get_or t i 0 ≡ shown s.comment b → ((k : ℕ) → StandsAt one t (More k) i → ⊥) → Knows one t i s.levels → Knows one t (i + 1) u.levels × (u.comment ≡ is_inside s.comment b)
knows_advance one t i s u b (in_comment c e) lt is m k =
    let x : shown s.comment b ≡ cond (not (b == line_feed)) space b = ap (λ (v : Bool). shown v b) c in
    let inside : is_inside s.comment b ≡ not (b == line_feed) = ap (λ (v : Bool). is_inside v b) c in
    (subst (λ (w : State). Knows one t (i + 1) w.levels) (sym e) (neutral_more one t i s.levels _ lt (is ∙ x) (neutral_comment b (b == line_feed) refl) m k), ap (λ (w : State). w.comment) e ∙ sym inside)
knows_advance one t i s u b (in_word c a e) lt is m k =
    let at = shown_at s b c (differs is_atom_byte b semicolon a refl) in
    (subst (λ (w : State). Knows one t (i + 1) w.levels) (sym e) (neutral_more one t i s.levels b lt (is ∙ at.0) (neutral_atom b a) m k), ap (λ (w : State). w.comment) e ∙ c ∙ sym at.1)
knows_advance one t i s u b (begins_comment c a semi e) lt is m k =
    let x : shown s.comment b ≡ space = ap (λ (v : Bool). shown v b) c ∙ ap (shown false) semi in
    let inside : is_inside s.comment b ≡ true = ap (λ (v : Bool). is_inside v b) c ∙ ap (is_inside false) semi in
    (subst (λ (w : State). Knows one t (i + 1) w.levels) (sym e) (neutral_more one t i s.levels space lt (is ∙ x) (refl, refl, refl) m k), ap (λ (w : State). w.comment) e ∙ sym inside)
knows_advance one t i s u b (opens c a paren few e) lt is m k =
    let at = shown_at s b c (ap (λ (v : ℕ). v == semicolon) paren) in
    (subst (λ (w : State). Knows one t (i + 1) w.levels) (sym e) (knows_open one t i s.levels _ lt (is ∙ at.0 ∙ paren) few m k), ap (λ (w : State). w.comment) e ∙ c ∙ sym at.1)
knows_advance one t i s u b (closes c a paren l ls lv e) lt is m k =
    let at = shown_at s b c (ap (λ (v : ℕ). v == semicolon) paren) in
    (subst (λ (w : State). Knows one t (i + 1) w.levels) (sym e) (knows_close one t i l ls lt (is ∙ at.0 ∙ paren) m (subst (Knows one t i) lv k)), ap (λ (w : State). w.comment) e ∙ c ∙ sym at.1)
knows_advance one t i s u b (is_space c a white e) lt is m k =
    let at = shown_at s b c (differs is_white b semicolon white refl) in
    (subst (λ (w : State). Knows one t (i + 1) w.levels) (sym e) (neutral_more one t i s.levels b lt (is ∙ at.0) (neutral_white b white) m k), ap (λ (w : State). w.comment) e ∙ c ∙ sym at.1)

pub err_is : (d e : KifFault) → bad {A = State} d ≡ bad e → d ≡ e
err_is d e h = cc

pub ok_not_err : (s : State) (e : KifFault) → good s ≡ bad e → ⊥
ok_not_err s e h = cc

pub forms_not_err : (xs : Expressions) (e : KifFault) → good xs ≡ bad e → ⊥
forms_not_err xs e h = cc

forms_err_is : (d e : KifFault) → bad {A = Expressions} d ≡ bad e → d ≡ e
forms_err_is d e h = cc

close_fails : (one : Bool) (t : List ℕ) (i : ℕ) (levels : List Open) (s : State) (e : KifFault) → get_or t i 0 ≡ right_parenthesis → Knows one t i levels → close_on levels s i ≡ Err e → StandsAt one t e i
close_fails one t i [] s e is k h = subst (λ (d : KifFault). StandsAt one t d i) (err_is _ e h) (refl, is, omega (arith, k.count))
close_fails one t i (l ∷ ls) s e is k h = absurd (ok_not_err _ e h)

nat_le-true : (m n : ℕ) → nat_le m n ≡ true → m ≤ n
nat_le-true m n e = grind (arith, nat_tests)

or_false : (x y : Bool) → x ≡ false → y ≡ false → (x || y) ≡ false
or_false x y h k = rw (h, k) refl

act_fails : (one : Bool) (t : List ℕ) (i : ℕ) (s : State) (b : ℕ) (e : KifFault) → i < length t → get_or t i 0 ≡ shown s.comment b → Knows one t i s.levels → s.comment ≡ false → is_atom_byte b ≡ false → act max_depth (flushed s) i b ≡ Err e → StandsAt one t e i
act_fails one t i s b e lt is k c a h =
    elim (chosen (b == semicolon) _ _ _ h) [
      | inl p ↦ absurd (ok_not_err _ e p.1)
      | inr p ↦ (let at = shown_at s b c p.0 in
          elim (chosen (b == left_parenthesis) _ _ _ p.1) [
            | inl q ↦ elim (chosen (nat_le max_depth (length s.levels)) _ _ _ q.1) [
              | inl r ↦ (let le = nat_le-true max_depth (length s.levels) r.0 in
                  subst (λ (d : KifFault). StandsAt one t d i) (err_is _ e r.1) (refl, is ∙ at.0 ∙ eqb-true b left_parenthesis q.0, omega (arith, k.count, k.few)))
              | inr r ↦ absurd (ok_not_err _ e r.1)
            ]
            | inr q ↦ elim (chosen (b == right_parenthesis) _ _ _ q.1) [
              | inl r ↦ close_fails one t i s.levels (flushed s) e (is ∙ at.0 ∙ eqb-true b right_parenthesis r.0) k r.1
              | inr r ↦ elim (chosen (is_white b) _ _ _ r.1) [
                | inl v ↦ absurd (ok_not_err _ e v.1)
                | inr v ↦ subst (λ (d : KifFault). StandsAt one t d i) (err_is _ e v.1) (refl, lt, ap is_known (is ∙ at.0) ∙ or_false _ (b == right_parenthesis) (or_false _ (b == left_parenthesis) (or_false (is_white b) (is_atom_byte b) v.0 a) q.0) r.0)
              ]
            ]
          ])
    ]

pub step_fails : (one : Bool) (t : List ℕ) (i : ℕ) (s : State) (b : ℕ) (e : KifFault) → i < length t → get_or t i 0 ≡ shown s.comment b → Knows one t i s.levels → step max_depth s i b ≡ Err e → StandsAt one t e i
step_fails one t i s b e lt is k h =
    elim (chosen s.comment _ _ _ h) [
      | inl p ↦ absurd (ok_not_err _ e p.1)
      | inr p ↦ elim (chosen (is_atom_byte b) _ _ _ p.1) [
        | inl q ↦ absurd (ok_not_err _ e q.1)
        | inr q ↦ act_fails one t i s b e lt is k p.0 q.0 q.1
      ]
    ]

pub drop_head : (i : ℕ) (t : List ℕ) (x : ℕ) (r : List ℕ) → drop i t ≡ x ∷ r → (i < length t) × (get_or t i 0 ≡ x) × (drop (suc i) t ≡ r)
drop_head zero [] x r e = absurd cc
drop_head zero (y ∷ t) x r e = (omega arith, cc, cc)
drop_head (suc i) [] x r e = absurd cc
drop_head (suc i) (y ∷ t) x r e = let h = drop_head i t x r e in (omega (arith, h.0), h.1, h.2)

pub drop_none : (i : ℕ) (t : List ℕ) → drop i t ≡ [] → length t ≤ i
drop_none zero [] e = omega arith
drop_none zero (y ∷ t) e = absurd cc
drop_none (suc i) [] e = omega arith
drop_none (suc i) (y ∷ t) e = omega (arith, drop_none i t e)

pub bind_err : {A B : Type 0} (r : Result A KifFault) (f : A → Result B KifFault) (e : KifFault) → (r >>= f) ≡ Err e → (r ≡ Err e) ⊎ ((x : A) × (r ≡ Ok x) × (f x ≡ Err e))
bind_err (Ok x) f e h = inr (x, refl, h)
bind_err (Err d) f e h = inl (let same : d ≡ e = cc in ap bad same)

pub no_more : (t : List ℕ) (i k : ℕ) → StandsAt false t (More k) i → ⊥
no_more t i k h = true≢false (sym h.0)

pub run_fails : (bs t : List ℕ) (i : ℕ) (s : State) (e : KifFault) → drop i t ≡ bare_from s.comment bs → Knows false t i s.levels → run (step max_depth) s i bs ≡ Err e → IsFirst false t e
unfolding run
run_fails [] t i s e d k h = absurd (ok_not_err s e h)
run_fails (b ∷ bs) t i s e d k h =
    let at = drop_head i t (shown s.comment b) (bare_from (is_inside s.comment b) bs) d in
    elim (bind_err (step max_depth s i b) (λ u. run (step max_depth) u (suc i) bs) e h) [
      | inl p ↦ (i, step_fails false t i s b e at.0 at.1 k p, k.clear)
      | inr p ↦ (let u = p.0 in
          let next = knows_advance false t i s u b (advance max_depth s i b u p.1) at.0 at.1 (no_more t i) k in
          run_fails bs t (i + 1) u e (ap (λ (j : ℕ). drop j t) (add-one i) ∙ at.2 ∙ ap (λ (v : Bool). bare_from v bs) (sym next.1)) next.0 (ap (λ (j : ℕ). run (step max_depth) u j bs) (add-one i) ∙ p.2))
    ]

-- if a run succeeds, there is no error so far
pub run_knows : (bs t : List ℕ) (i : ℕ) (s u : State) → drop i t ≡ bare_from s.comment bs → i ≤ length t → Knows false t i s.levels → run (step max_depth) s i bs ≡ Ok u → Knows false t (length t) u.levels
unfolding run
run_knows [] t i s u d le k h =
    let past = drop_none i t d in
    let end : i ≡ length t = omega arith in
    subst (λ (w : State). Knows false t (length t) w.levels) (ok_is s u h) (subst (λ (j : ℕ). Knows false t j s.levels) end k)
run_knows (b ∷ bs) t i s u d le k h =
    let at = drop_head i t (shown s.comment b) (bare_from (is_inside s.comment b) bs) d in
    let p = bind_ok (step max_depth s i b) (λ w. run (step max_depth) w (suc i) bs) u h in
    let next = knows_advance false t i s p.0 b (advance max_depth s i b p.0 p.1) at.0 at.1 (no_more t i) k in
    run_knows bs t (i + 1) p.0 u (ap (λ (j : ℕ). drop j t) (add-one i) ∙ at.2 ∙ ap (λ (v : Bool). bare_from v bs) (sym next.1)) (omega (arith, at.0)) next.0 (ap (λ (j : ℕ). run (step max_depth) p.0 j bs) (add-one i) ∙ p.2)

pub length_bare : (bs : List ℕ) (v : Bool) → length (bare_from v bs) ≡ length bs
length_bare [] v = refl
length_bare (b ∷ bs) v = ap suc (length_bare bs (is_inside v b))

pub knows_none : (one : Bool) (t : List ℕ) → Knows one t 0 []
knows_none one t = record { count = omega arith; few = omega arith; clear = λ e i lt h. omega arith; lists = tt }

pub open_ends : (one : Bool) (t : List ℕ) (ls : List Open) (xs : Expressions) (e : KifFault) → Knows one t (length t) ls → finish_on ls xs ≡ Err e → (l : Open) × (e ≡ Unclosed l.at) × IsUnclosed t l.at
open_ends one t [] xs e k h = absurd (forms_not_err xs e h)
open_ends one t (l ∷ ls) xs e k h =
    let lists = k.lists in
    let high : level t (length t) ≡ suc (length ls) = omega (arith, k.count) in
    let stays : StaysOpen t l.at = (lists.0, lists.1, λ j lt le. omega (arith, lists.2, lists.3 j lt le)) in (
      l,
      sym (forms_err_is _ e h),
      (
        omega arith,
        stays,
        λ n other. elim (cases_lt l.at n) [
          | inl p ↦ (let above = lists.3 n p (omega (arith, other.0)) in
              let below = other.2 (length t) other.0 (omega arith) in
              absurd (omega (arith, above, below, high)))
          | inr p ↦ p
        ],
      ),
    )

fault_of : (limit : ℕ) (text : List ℕ) (e : KifFault) → length text ≤ limit → IsFirst false (bare text) e → IsFaultUpTo limit false text e
fault_of limit text (BadByte i) le h = (le, h)
fault_of limit text (Unopened i) le h = (le, h)
fault_of limit text (TooDeep i) le h = (le, h)
fault_of limit text (Unclosed i) le h = absurd h.1
fault_of limit text Nothing le h = absurd h.1
fault_of limit text (More i) le h = (le, h)
fault_of limit text TooLong le h = absurd h.1
fault_of limit text Memory le h = le

-- if the reader refuses a text with an error, the text has that error
pub read_fails : (limit : ℕ) (text : List ℕ) (e : KifFault) → length text ≤ limit → read max_depth text ≡ Err e → IsFaultUpTo limit false text e
read_fails limit text e le h =
    elim (bind_err (run (step max_depth) start 0 text) finish e h) [
      | inl p ↦ fault_of limit text e le (run_fails text (bare text) 0 start e refl (knows_none false (bare text)) p)
      | inr p ↦ (let s = p.0 in
          let k = run_knows text (bare text) 0 start s refl (omega arith) (knows_none false (bare text)) p.1 in
          let u = open_ends false (bare text) s.levels (with_word s.here s.word) e k p.2 in
          subst (IsFaultUpTo limit false text) (sym u.1) (le, subst (IsClear false (bare text)) (length_bare text false) k.clear, u.2))
    ]
