-- The reader returns the expressions that a text spells, so a text spells at most one list of expressions.
use Rattle.std.proofs.Common.{◌≡◌, ◌≢◌, ℕ, suc, ◌+◌, ◌<◌, ◌≤◌, List, [], ◌∷◌, ◌++◌, length, Bool, true, false, ◌==◌, ◌||◌, nat_le, Result, Ok, refl, sym, ap, subst, ◌∙◌, ◌⊎◌, inl, inr, append_assoc, arith}
use Rattle.std.proofs.lemmas.List.{append-nil}
use Rattle.std.proofs.lemmas.Bool.{eqb-true, ne_eqb}
use Rattle.std.proofs.lemmas.Bool.Decides.{nat_tests}
use Rattle.game_core.specs.Bytes.{tab, line_feed, carriage_return, space, left_parenthesis, right_parenthesis, semicolon, is_white}
use Rattle.game_core.specs.Expression.{atom, list, Expressions, none, depth_all, AreAtomBytes}
use Rattle.kif_text.specs.Spelling.{EndsAtom, HasNoLineFeed, Spells, spells_none, spells_white, spells_comment, spells_atom, spells_list, IsLastComment, SpellsText}
use Rattle.kif_text.specs.Machine.{Open, State, start, and_last, ◌>>=◌, with_word, step, run, finish, read}
use Rattle.kif_text.specs.declared.fault.KifFault.{KifFault}
use Rattle.kif_text.proofs.Advances.{ok_is}
use Rattle.kif_text.proofs.ReadIsSpelled.{join, join_none, join_last}

-- the state with no unfinished atom or comment
abbrev at : List Open → Expressions → State
at ls here = record { levels = ls; here = here; word = []; comment = false }

abbrev in_word : List Open → Expressions → List ℕ → State
in_word ls here w = record { levels = ls; here = here; word = w; comment = false }

abbrev commented : List Open → Expressions → State
commented ls here = record { levels = ls; here = here; word = []; comment = true }

-- the result of reading from here to the end
unfoldable out : ℕ → State → ℕ → List ℕ → Result Expressions KifFault
out limit s i bs = run (step limit) s i bs >>= finish

steps : (limit : ℕ) (s t : State) (i b : ℕ) (bs : List ℕ) → step limit s i b ≡ Ok t → out limit s i (b ∷ bs) ≡ out limit t (suc i) bs
unfolding out run
steps limit s t i b bs e = ap (λ r. (r >>= λ u. run (step limit) u (suc i) bs) >>= finish) e

or_true : (x y : Bool) → (x || y) ≡ true → (x ≡ true) ⊎ (y ≡ true)
or_true true y h = inl refl
or_true false y h = inr h

above : (m n : ℕ) → n < m → nat_le m n ≡ false
above m n lt = grind (arith, nat_tests)

comment_step : (limit : ℕ) (ls : List Open) (here : Expressions) (i b : ℕ) → b ≢ line_feed → step limit (commented ls here) i b ≡ Ok (commented ls here)
comment_step limit ls here i b ne = rw (ne_eqb b line_feed ne) refl

white_is : (b : ℕ) → is_white b ≡ true → (b ≡ space) ⊎ ((b ≡ tab) ⊎ ((b ≡ carriage_return) ⊎ (b ≡ line_feed)))
white_is b h =
    elim (or_true (b == space || b == tab || b == carriage_return) (b == line_feed) h) [
      | inl p ↦ elim (or_true (b == space || b == tab) (b == carriage_return) p) [
        | inl q ↦ elim (or_true (b == space) (b == tab) q) [
          | inl r ↦ inl (eqb-true b space r)
          | inr r ↦ inr (inl (eqb-true b tab r))
        ]
        | inr q ↦ inr (inr (inl (eqb-true b carriage_return q)))
      ]
      | inr p ↦ inr (inr (inr (eqb-true b line_feed p)))
    ]

white_step : (limit : ℕ) (ls : List Open) (here : Expressions) (i b : ℕ) → is_white b ≡ true → step limit (at ls here) i b ≡ Ok (at ls here)
white_step limit ls here i b h =
    elim (white_is b h) [
      | inl p ↦ subst (λ (x : ℕ). step limit (at ls here) i x ≡ Ok (at ls here)) (sym p) refl
      | inr q ↦ elim q [
        | inl p ↦ subst (λ (x : ℕ). step limit (at ls here) i x ≡ Ok (at ls here)) (sym p) refl
        | inr r ↦ elim r [
          | inl p ↦ subst (λ (x : ℕ). step limit (at ls here) i x ≡ Ok (at ls here)) (sym p) refl
          | inr p ↦ subst (λ (x : ℕ). step limit (at ls here) i x ≡ Ok (at ls here)) (sym p) refl
        ]
      ]
    ]

comment_runs : (c : List ℕ) (limit : ℕ) (ls : List Open) (here : Expressions) (i : ℕ) (r : List ℕ) → HasNoLineFeed c → (j : ℕ) × (out limit (commented ls here) i (c ++ line_feed ∷ r) ≡ out limit (at ls here) j r)
comment_runs [] limit ls here i r h = (suc i, steps limit (commented ls here) (at ls here) i line_feed r refl)
comment_runs (b ∷ c) limit ls here i r h =
    let rest = comment_runs c limit ls here (suc i) r h.1 in
    (rest.0, steps limit (commented ls here) (commented ls here) i b (c ++ line_feed ∷ r) (comment_step limit ls here i b h.0) ∙ rest.1)

word_runs : (w : List ℕ) (limit : ℕ) (ls : List Open) (here : Expressions) (v : List ℕ) (i : ℕ) (r : List ℕ) → AreAtomBytes w → (j : ℕ) × (out limit (in_word ls here v) i (w ++ r) ≡ out limit (in_word ls here (v ++ w)) j r)
word_runs [] limit ls here v i r h = (i, ap (λ (x : List ℕ). out limit (in_word ls here x) i r) (sym (append-nil v)))
word_runs (b ∷ w) limit ls here v i r h =
    let rest = word_runs w limit ls here (v ++ b ∷ []) (suc i) r h.1 in
    let one : step limit (in_word ls here v) i b ≡ Ok (in_word ls here (v ++ b ∷ [])) = rw h.0 refl in
    (rest.0, steps limit (in_word ls here v) (in_word ls here (v ++ b ∷ [])) i b (w ++ r) one ∙ rest.1 ∙ ap (λ (x : List ℕ). out limit (in_word ls here x) rest.0 r) (append_assoc v (b ∷ []) w))

flush_runs : (limit : ℕ) (ls : List Open) (here : Expressions) (w : List ℕ) (i : ℕ) (r : List ℕ) → EndsAtom r → out limit (in_word ls here w) i r ≡ out limit (at ls (with_word here w)) i r
unfolding out run
flush_runs limit ls here w i [] h = refl
flush_runs limit ls here w i (b ∷ r) h = rw h refl

ends_both : (rest r : List ℕ) → EndsAtom rest → EndsAtom r → EndsAtom (rest ++ r)
ends_both [] r h k = k
ends_both (b ∷ rest) r h k = h

some_word : (here : Expressions) (w : List ℕ) → 0 < length w → with_word here w ≡ and_last here (atom w)
some_word here [] lt = absurd (omega arith)
some_word here (b ∷ w) lt = refl

spelled_runs : (text : List ℕ) (xs : Expressions) → Spells text xs → (limit : ℕ) (ls : List Open) (here : Expressions) (r : List ℕ) (i : ℕ) → depth_all xs + length ls ≤ limit → EndsAtom r
    → (j : ℕ) × (out limit (at ls here) i (text ++ r) ≡ out limit (at ls (join here xs)) j r)
spelled_runs text xs spells_none limit ls here r i le ends = (i, ap (λ (ys : Expressions). out limit (at ls ys) i r) (sym (join_none here)))
spelled_runs text xs (spells_white b rest ys w h) limit ls here r i le ends =
    let g = spelled_runs rest ys h limit ls here r (suc i) le ends in
    (g.0, steps limit (at ls here) (at ls here) i b (rest ++ r) (white_step limit ls here i b w) ∙ g.1)
spelled_runs text xs (spells_comment c rest ys n h) limit ls here r i le ends =
    let over = comment_runs c limit ls here (suc i) (rest ++ r) n in
    let g = spelled_runs rest ys h limit ls here r over.0 le ends in
    (g.0, steps limit (at ls here) (commented ls here) i semicolon ((c ++ line_feed ∷ rest) ++ r) refl ∙ ap (out limit (commented ls here) (suc i)) (append_assoc c (line_feed ∷ rest) r) ∙ over.1 ∙ g.1)
spelled_runs text xs (spells_atom w rest ys a e h) limit ls here r i le ends =
    let over = word_runs w limit ls here [] i (rest ++ r) a.1 in
    let g = spelled_runs rest ys h limit ls (and_last here (atom w)) r over.0 (omega arith) ends in
    (g.0, ap (out limit (at ls here) i) (append_assoc w rest r) ∙ over.1 ∙ flush_runs limit ls here w over.0 (rest ++ r) (ends_both rest r e ends) ∙ ap (λ (zs : Expressions). out limit (at ls zs) over.0 (rest ++ r)) (some_word here w a.0) ∙ g.1 ∙ ap (λ (zs : Expressions). out limit (at ls zs) g.0 r) (join_last here (atom w) ys))
spelled_runs text xs (spells_list inner rest ys zs h k) limit ls here r i le ends =
    let l : Open = record { before = here; at = i } in
    let lt : nat_le limit (length ls) ≡ false = above limit (length ls) (omega arith) in
    let first : step limit (at ls here) i left_parenthesis ≡ Ok (at (l ∷ ls) none) = rw lt refl in
    let g = spelled_runs inner ys h limit (l ∷ ls) none (right_parenthesis ∷ (rest ++ r)) (suc i) (omega arith) refl in
    let m = spelled_runs rest zs k limit ls (and_last here (list ys)) r (suc g.0) (omega arith) ends in
    (m.0, steps limit (at ls here) (at (l ∷ ls) none) i left_parenthesis ((inner ++ right_parenthesis ∷ rest) ++ r) first ∙ ap (out limit (at (l ∷ ls) none) (suc i)) (append_assoc inner (right_parenthesis ∷ rest) r) ∙ g.1 ∙ steps limit (at (l ∷ ls) ys) (at ls (and_last here (list ys))) g.0 right_parenthesis (rest ++ r) refl ∙ m.1 ∙ ap (λ (us : Expressions). out limit (at ls us) m.0 r) (join_last here (list ys) zs))

rest_of_tail : (c : List ℕ) (limit : ℕ) (here : Expressions) (i : ℕ) → HasNoLineFeed c → out limit (commented [] here) i c ≡ Ok here
unfolding out run
rest_of_tail [] limit here i h = refl
rest_of_tail (b ∷ c) limit here i h = steps limit (commented [] here) (commented [] here) i b c (comment_step limit [] here i b h.0) ∙ rest_of_tail c limit here (suc i) h.1

tail_runs : (tail : List ℕ) (limit : ℕ) (here : Expressions) (i : ℕ) → IsLastComment tail → out limit (at [] here) i tail ≡ Ok here
unfolding out run
tail_runs [] limit here i h = refl
tail_runs (b ∷ c) limit here i h =
    let one : step limit (at [] here) i b ≡ Ok (commented [] here) = subst (λ (x : ℕ). step limit (at [] here) i x ≡ Ok (commented [] here)) (sym h.0) refl in
    steps limit (at [] here) (commented [] here) i b c one ∙ rest_of_tail c limit here (suc i) h.1

tail_ends : (tail : List ℕ) → IsLastComment tail → EndsAtom tail
tail_ends [] h = tt
tail_ends (b ∷ c) h = rw h.0 refl

pub spelled_read : (limit : ℕ) (text : List ℕ) (xs : Expressions) → SpellsText text xs → depth_all xs ≤ limit → read limit text ≡ Ok xs
unfolding out
spelled_read limit text xs h le =
    let g = spelled_runs h.0 xs h.3 limit [] none h.1 0 (omega arith) (tail_ends h.1 h.4) in
    ap (λ (t : List ℕ). out limit start 0 t) h.2 ∙ g.1 ∙ tail_runs h.1 limit xs g.0 h.4

pub spells_one : (text : List ℕ) (xs ys : Expressions) → SpellsText text xs → SpellsText text ys → xs ≡ ys
spells_one text xs ys h k =
    let limit = depth_all xs + depth_all ys in
    ok_is xs ys (sym (spelled_read limit text xs h (omega arith)) ∙ spelled_read limit text ys k (omega arith))
