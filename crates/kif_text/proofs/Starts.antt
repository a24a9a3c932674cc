-- The number of expressions that have begun outside all lists, counted in the text and in the reader.
use Rattle.std.proofs.Common.{◌≡◌, ℕ, suc, ◌+◌, ◌<◌, ◌≤◌, List, [], ◌∷◌, ◌++◌, length, get_or, Bool, true, false, not, ◌&&◌, ◌||◌, ◌==◌, cond, refl, sym, ap, subst, ◌∙◌, arith}
use Rattle.std.proofs.lemmas.Bool.{eqb-true, ne_eqb, eq-eqb, true≢false, and_parts}
use Rattle.std.proofs.lemmas.List.{length-append}
use Rattle.game_core.specs.Bytes.{line_feed, space, left_parenthesis, semicolon, is_white, is_atom_byte}
use Rattle.game_core.specs.Expression.{Expression, atom, list, Expressions, none, more, max_depth}
use Rattle.kif_text.specs.Faults.{level, begins, starts, started}
use Rattle.kif_text.specs.Machine.{Open, State, and_last, with_word, count_of, begins_here, is_second}
use Rattle.kif_text.specs.Internal.Following.{outermost, total_on, total}
use Rattle.kif_text.proofs.Advances.{Advance, in_comment, in_word, begins_comment, opens, closes, is_space}
use Rattle.kif_text.proofs.FirstFault.{Knows, shown, differs, shown_at}

len_last : (xs : Expressions) (y : Expression) → count_of (and_last xs y) ≡ suc (count_of xs)
len_last none y = refl
len_last (more x xs) y = ap suc (len_last xs y)

comment_begins : (s : State) (b : ℕ) → s.comment ≡ true → begins_here s b ≡ false
comment_begins s b c = rw c refl

inner_begins : (s : State) (b : ℕ) (l : Open) (ls : List Open) → s.levels ≡ l ∷ ls → s.comment ≡ false → begins_here s b ≡ false
inner_begins s b l ls lv c =
    let h : (length s.levels == 0) ≡ false = ne_eqb _ 0 (λ e. omega (arith, ap length lv, e)) in
    rw (c, h) refl

outer_begins : (s : State) (b : ℕ) → s.levels ≡ [] → s.comment ≡ false → begins_here s b ≡ (b == left_parenthesis || (is_atom_byte b && (length s.word == 0)))
outer_begins s b lv c =
    let h : (length s.levels == 0) ≡ true = eq-eqb _ 0 (ap length lv) in
    rw (c, h) refl

plain_begins : (s : State) (b : ℕ) (ls : List Open) → s.levels ≡ ls → s.comment ≡ false → is_atom_byte b ≡ false → (b == left_parenthesis) ≡ false → begins_here s b ≡ false
plain_begins s b [] lv c a p = outer_begins s b lv c ∙ rw (a, p) refl
plain_begins s b (l ∷ ls) lv c a p = inner_begins s b l ls lv c

same_total : (s : State) (b : ℕ) (n : ℕ) → begins_here s b ≡ false → n ≡ total s → n ≡ cond (begins_here s b) 1 0 + total s
same_total s b n no_more e = rw no_more (omega (arith, e))

word_on : (s : State) (b : ℕ) (ls : List Open) (w : List ℕ) → s.levels ≡ ls → s.word ≡ w → s.comment ≡ false → is_atom_byte b ≡ true → total_on s.levels s.here (s.word ++ b ∷ []) ≡ cond (begins_here s b) 1 0 + total s
word_on s b (l ∷ ls) w lv is c a =
    same_total s b _ (inner_begins s b l ls lv c) (ap (λ (ms : List Open). total_on ms s.here (s.word ++ b ∷ [])) lv ∙ sym (ap (λ (ms : List Open). total_on ms s.here s.word) lv))
word_on s b [] [] lv is c a =
    let begin : begins_here s b ≡ true = outer_begins s b lv c ∙ rw (a, is, differs is_atom_byte b left_parenthesis a refl) refl in
    rw (begin, lv, is) (len_last s.here (atom (b ∷ [])) ∙ omega arith)
word_on s b [] (x ∷ w) lv is c a =
    let begin : begins_here s b ≡ false = outer_begins s b lv c ∙ rw (a, is, differs is_atom_byte b left_parenthesis a refl) (ne_eqb (length (x ∷ w)) 0 (λ e. omega (arith, e))) in
    rw (begin, lv, is) (len_last s.here (atom (x ∷ (w ++ b ∷ []))) ∙ omega (arith, len_last s.here (atom (x ∷ w))))

flush_on : (s : State) (ls : List Open) → s.levels ≡ ls → total_on s.levels (with_word s.here s.word) [] ≡ total s
flush_on s [] lv = rw lv refl
flush_on s (l ∷ ls) lv = rw lv refl

open_on : (s : State) (b i : ℕ) (ls : List Open) → s.levels ≡ ls → s.comment ≡ false → b ≡ left_parenthesis → suc (outermost (record { before = with_word s.here s.word; at = i }) s.levels) ≡ cond (begins_here s b) 1 0 + total s
open_on s b i [] lv c is =
    let begin : begins_here s b ≡ true = outer_begins s b lv c ∙ ap (λ (v : Bool). v || (is_atom_byte b && (length s.word == 0))) (eq-eqb b left_parenthesis is) in
    rw (begin, lv) (omega arith)
open_on s b i (l ∷ ls) lv c is =
    let begin : begins_here s b ≡ false = inner_begins s b l ls lv c in
    rw (begin, lv) (omega arith)

close_on_total : (l : Open) (ls : List Open) (inner here : Expressions) (word : List ℕ) → total_on ls (and_last l.before (list inner)) [] ≡ total_on (l ∷ ls) here word
close_on_total l [] inner here word = len_last l.before (list inner)
close_on_total l (m ∷ ms) inner here word = refl

pub total_advance : (limit : ℕ) (s u : State) (i b : ℕ) → Advance limit s u i b → total u ≡ cond (begins_here s b) 1 0 + total s
total_advance limit s u i b (in_comment c e) = ap total e ∙ same_total s b (total s) (comment_begins s b c) refl
total_advance limit s u i b (in_word c a e) = ap total e ∙ word_on s b s.levels s.word refl refl c a
total_advance limit s u i b (begins_comment c a is e) = ap total e ∙ same_total s b _ (plain_begins s b s.levels refl c a (ap (λ (x : ℕ). x == left_parenthesis) is)) (flush_on s s.levels refl)
total_advance limit s u i b (opens c a is lt e) = ap total e ∙ open_on s b i s.levels refl c is
total_advance limit s u i b (closes c a is l ls lv e) = ap total e ∙ same_total s b _ (plain_begins s b s.levels refl c a (ap (λ (x : ℕ). x == left_parenthesis) is)) (close_on_total l ls (with_word s.here s.word) s.here s.word ∙ sym (ap (λ (ms : List Open). total_on ms s.here s.word) lv))
total_advance limit s u i b (is_space c a w e) = ap total e ∙ same_total s b _ (plain_begins s b s.levels refl c a (differs is_white b left_parenthesis w refl)) (flush_on s s.levels refl)

-- what a reader of one expression knows after i bytes
pub record KnowsOne (t : List ℕ) (i : ℕ) (s : State) : Type 0 where
  pub count : started t i ≡ total s
  pub few : total s ≤ 1
  pub before : is_atom_byte (get_or (space ∷ t) i 0) ≡ not (length s.word == 0)
  pub quiet : s.comment ≡ true → s.word ≡ []

level_is : (single : Bool) (t : List ℕ) (i : ℕ) (ls : List Open) → Knows single t i ls → level t i ≡ length ls
level_is single t i ls k = omega (arith, k.count)

and_no : (v : Bool) → (v && false) ≡ false
and_no true = refl
and_no false = refl

not_not : (v : Bool) → not (not v) ≡ v
not_not true = refl
not_not false = refl

not_begun : (t : List ℕ) (i x : ℕ) → get_or t i 0 ≡ x → (x == left_parenthesis) ≡ false → is_atom_byte x ≡ false → starts t i ≡ false
not_begun t i x is p a =
    let here : begins t i ≡ false = rw (is, a, p) refl in
    ap (λ (v : Bool). (level t i == 0) && v) here ∙ and_no (level t i == 0)

comment_shown : (b : ℕ) (v : Bool) → (b == line_feed) ≡ v → ((cond (not v) space b == left_parenthesis) ≡ false) × (is_atom_byte (cond (not v) space b) ≡ false)
comment_shown b true e = subst (λ (x : ℕ). ((x == left_parenthesis) ≡ false) × (is_atom_byte x ≡ false)) (sym (eqb-true b line_feed e)) (refl, refl)
comment_shown b false e = (refl, refl)

starts_in : (single : Bool) (t : List ℕ) (i : ℕ) (s : State) (b : ℕ) (ls : List Open) → s.levels ≡ ls → s.comment ≡ false → (w : Bool) → (b == semicolon) ≡ w → get_or t i 0 ≡ shown s.comment b → Knows single t i s.levels → is_atom_byte (get_or (space ∷ t) i 0) ≡ not (length s.word == 0) → starts t i ≡ begins_here s b
starts_in single t i s b (l ∷ ls) lv c w semi is k one =
    let at = level_is single t i s.levels k in
    let deep : (level t i == 0) ≡ false = ne_eqb _ 0 (λ e. omega (arith, at, ap length lv, e)) in
    ap (λ (v : Bool). v && begins t i) deep ∙ sym (inner_begins s b l ls lv c)
starts_in single t i s b [] lv c true semi is k one =
    let b-is : b ≡ semicolon = eqb-true b semicolon semi in
    let x : shown s.comment b ≡ space = ap (λ (v : Bool). shown v b) c ∙ ap (shown false) b-is in
    not_begun t i space (is ∙ x) refl refl ∙ sym (plain_begins s b [] lv c (ap is_atom_byte b-is) (ap (λ (x : ℕ). x == left_parenthesis) b-is))
starts_in single t i s b [] lv c false semi is k one =
    let at = level_is single t i s.levels k in
    let flat : (level t i == 0) ≡ true = eq-eqb _ 0 (at ∙ ap length lv) in
    let x : get_or t i 0 ≡ b = is ∙ (shown_at s b c semi).0 in
    let here : begins t i ≡ (b == left_parenthesis || (is_atom_byte b && (length s.word == 0))) =
    ap (λ (v : Bool). get_or t i 0 == left_parenthesis || (is_atom_byte (get_or t i 0) && not v)) one ∙ ap (λ (v : Bool). get_or t i 0 == left_parenthesis || (is_atom_byte (get_or t i 0) && v)) (not_not (length s.word == 0)) ∙ ap (λ (y : ℕ). y == left_parenthesis || (is_atom_byte y && (length s.word == 0))) x in
    ap (λ (v : Bool). v && begins t i) flat ∙ here ∙ sym (outer_begins s b lv c)

starts_by : (single : Bool) (t : List ℕ) (i : ℕ) (s : State) (b : ℕ) (v : Bool) → s.comment ≡ v → get_or t i 0 ≡ shown s.comment b → Knows single t i s.levels → is_atom_byte (get_or (space ∷ t) i 0) ≡ not (length s.word == 0) → starts t i ≡ begins_here s b
starts_by single t i s b true c is k one =
    let x = comment_shown b (b == line_feed) refl in
    not_begun t i _ (is ∙ ap (λ (v : Bool). shown v b) c) x.0 x.1 ∙ sym (comment_begins s b c)
starts_by single t i s b false c is k one = starts_in single t i s b s.levels refl c (b == semicolon) refl is k one

pub starts_is : (single : Bool) (t : List ℕ) (i : ℕ) (s : State) (b : ℕ) → get_or t i 0 ≡ shown s.comment b → Knows single t i s.levels → is_atom_byte (get_or (space ∷ t) i 0) ≡ not (length s.word == 0) → starts t i ≡ begins_here s b
starts_is single t i s b is k one = starts_by single t i s b s.comment refl is k one

total_pos : (ls : List Open) (here : Expressions) (word : List ℕ) → not (count_of here == 0 && length word == 0) ≡ true → 0 < total_on ls here word
total_pos (l ∷ ls) here word h = omega arith
total_pos [] here (b ∷ w) h = omega (arith, len_last here (atom (b ∷ w)))
total_pos [] none [] h = absurd (true≢false (sym h))
total_pos [] (more x xs) [] h = omega arith

pub second_is : (s : State) (b : ℕ) → is_second s b ≡ true → (begins_here s b ≡ true) × (0 < total s)
second_is s b h =
    let p = and_parts (begins_here s b) (not (count_of s.here == 0 && length s.word == 0)) h in
    (p.0, total_pos s.levels s.here s.word p.1)

not_false : (v : Bool) → not v ≡ false → v ≡ true
not_false true h = refl
not_false false h = absurd (true≢false h)

total_zero : (here : Expressions) (word : List ℕ) → not (count_of here == 0 && length word == 0) ≡ false → count_of (with_word here word) ≡ 0
total_zero here [] h = eqb-true (count_of here) 0 (and_parts (count_of here == 0) _ (not_false _ h)).0
total_zero here (b ∷ w) h = let e = eqb-true (length (b ∷ w)) 0 (and_parts (count_of here == 0) _ (not_false _ h)).1 in absurd (omega (arith, e))

and_false_right : (v w : Bool) → (v && w) ≡ false → v ≡ true → w ≡ false
and_false_right true w h e = h
and_false_right false w h e = absurd (true≢false (sym e))

first_on : (s : State) (b : ℕ) (ls : List Open) (v : Bool) → s.levels ≡ ls → s.comment ≡ v → begins_here s b ≡ true → not (count_of s.here == 0 && length s.word == 0) ≡ false → total s ≡ 0
first_on s b ls true lv c begin h = absurd (true≢false (sym begin ∙ comment_begins s b c))
first_on s b (l ∷ ls) false lv c begin h = absurd (true≢false (sym begin ∙ inner_begins s b l ls lv c))
first_on s b [] false lv c begin h = ap (λ (ms : List Open). total_on ms s.here s.word) lv ∙ total_zero s.here s.word h

pub first_is : (s : State) (b : ℕ) → is_second s b ≡ false → begins_here s b ≡ true → total s ≡ 0
first_is s b h begin = first_on s b s.levels s.comment refl refl begin (and_false_right _ _ h begin)

-- whether the byte before the next offset belongs to an unfinished atom
pub word_after : (limit : ℕ) (s u : State) (i b : ℕ) → Advance limit s u i b → (s.comment ≡ true → s.word ≡ []) → (is_atom_byte (shown s.comment b) ≡ not (length u.word == 0)) × (u.comment ≡ true → u.word ≡ [])
word_after limit s u i b (in_comment c e) quiet =
    let empty : u.word ≡ [] = ap (λ (v : State). v.word) e ∙ quiet c in
    (ap (λ (v : Bool). is_atom_byte (shown v b)) c ∙ (comment_shown b (b == line_feed) refl).1 ∙ sym (ap (λ (w : List ℕ). not (length w == 0)) empty), λ _. empty)
word_after limit s u i b (in_word c a e) quiet =
    let word : u.word ≡ s.word ++ b ∷ [] = ap (λ (v : State). v.word) e in
    let long : (length u.word == 0) ≡ false = ne_eqb _ 0 (λ z. omega (arith, z, ap length word, length-append s.word (b ∷ []))) in
    (ap is_atom_byte (shown_at s b c (differs is_atom_byte b semicolon a refl)).0 ∙ a ∙ sym (ap not long), λ z. absurd (true≢false (sym z ∙ ap (λ (v : State). v.comment) e ∙ c)))
word_after limit s u i b (begins_comment c a is e) quiet =
    let empty : u.word ≡ [] = ap (λ (v : State). v.word) e in
    let x : shown s.comment b ≡ space = ap (λ (v : Bool). shown v b) c ∙ ap (shown false) is in
    (ap is_atom_byte x ∙ sym (ap (λ (w : List ℕ). not (length w == 0)) empty), λ _. empty)
word_after limit s u i b (opens c a is lt e) quiet =
    let empty : u.word ≡ [] = ap (λ (v : State). v.word) e in
    (ap is_atom_byte (shown_at s b c (ap (λ (x : ℕ). x == semicolon) is)).0 ∙ a ∙ sym (ap (λ (w : List ℕ). not (length w == 0)) empty), λ _. empty)
word_after limit s u i b (closes c a is l ls lv e) quiet =
    let empty : u.word ≡ [] = ap (λ (v : State). v.word) e in
    (ap is_atom_byte (shown_at s b c (ap (λ (x : ℕ). x == semicolon) is)).0 ∙ a ∙ sym (ap (λ (w : List ℕ). not (length w == 0)) empty), λ _. empty)
word_after limit s u i b (is_space c a w e) quiet =
    let empty : u.word ≡ [] = ap (λ (v : State). v.word) e in
    (ap is_atom_byte (shown_at s b c (differs is_white b semicolon w refl)).0 ∙ a ∙ sym (ap (λ (w : List ℕ). not (length w == 0)) empty), λ _. empty)

few_more : (v : Bool) (n m : ℕ) → m ≡ cond v 1 0 + n → n ≤ 1 → (v ≡ true → n ≡ 0) → m ≤ 1
few_more true n m e le first = let z = first refl in omega (arith, e, z)
few_more false n m e le first = omega (arith, e, le)

-- a successful step keeps `KnowsOne`
pub one_advance : (t : List ℕ) (i : ℕ) (s u : State) (b : ℕ) → Advance max_depth s u i b → get_or t i 0 ≡ shown s.comment b → Knows true t i s.levels → is_second s b ≡ false → KnowsOne t i s → KnowsOne t (suc i) u
one_advance t i s u b h is k no_second one =
    let at = starts_is true t i s b is k one.before in
    let more = total_advance max_depth s u i b h in
    let word = word_after max_depth s u i b h one.quiet in
    record {
      count = ap (λ (v : Bool). cond v 1 0 + started t i) at ∙ ap (λ (n : ℕ). cond (begins_here s b) 1 0 + n) one.count ∙ sym more;
      few = few_more (begins_here s b) (total s) (total u) more one.few (first_is s b no_second);
      before = ap is_atom_byte is ∙ word.0;
      quiet = word.1;
    }
