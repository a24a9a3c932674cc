-- A text spells the expressions that the reader returns for it.
use Rattle.std.proofs.Common.{◌≡◌, ◌≢◌, ℕ, suc, ◌<◌, List, [], ◌∷◌, ◌++◌, length, Bool, true, false, not, ◌==◌, Ok, refl, sym, ap, subst, ◌∙◌, append_assoc, arith}
use Rattle.std.proofs.lemmas.List.{append-nil}
use Rattle.std.proofs.lemmas.Bool.{eqb-true, eqb-false}
use Rattle.game_core.specs.Bytes.{line_feed, left_parenthesis, right_parenthesis, semicolon, is_white, is_atom_byte}
use Rattle.game_core.specs.Expression.{Expression, atom, list, Expressions, none, more, AreAtomBytes}
use Rattle.kif_text.specs.Spelling.{EndsAtom, HasNoLineFeed, Spells, spells_none, spells_white, spells_comment, spells_atom, spells_list, SpellsText}
use Rattle.kif_text.specs.Machine.{Open, State, start, and_last, ◌>>=◌, with_word, step, run, finish_on, finish, read}
use Rattle.kif_text.proofs.Advances.{Advance, in_comment, in_word, begins_comment, opens, closes, is_space, advance, bind_ok, ok_is}

abbrev pub join : Expressions → Expressions → Expressions
join none ys = ys
join (more x xs) ys = more x (join xs ys)

pub join_none : (xs : Expressions) → join xs none ≡ xs
join_none none = refl
join_none (more x xs) = ap (more x) (join_none xs)

pub join_last : (xs : Expressions) (y : Expression) (ys : Expressions) → join (and_last xs y) ys ≡ join xs (more y ys)
join_last none y ys = refl
join_last (more x xs) y ys = ap (more x) (join_last xs y ys)

-- With these lists open and the expressions `here` read at the innermost level, the rest of the text completes the expressions `all`.
abbrev pub Completes : List Open → Expressions → List ℕ → Expressions → Type 0
Completes [] here rest all = (ys : Expressions) × SpellsText rest ys × (all ≡ join here ys)
Completes (l ∷ ls) here rest all = (inner after : List ℕ) × (ys : Expressions) × (rest ≡ inner ++ right_parenthesis ∷ after) × Spells inner ys × Completes ls (and_last l.before (list (join here ys))) after all

regroup : (a b c : List ℕ) (x y : ℕ) → x ∷ (a ++ y ∷ (b ++ c)) ≡ (x ∷ (a ++ y ∷ b)) ++ c
regroup a b c x y = ap (λ (s : List ℕ). x ∷ s) (sym (append_assoc a (y ∷ b) c))

white_completes : (ls : List Open) (here : Expressions) (b : ℕ) (t : List ℕ) (all : Expressions) → is_white b ≡ true → Completes ls here t all → Completes ls here (b ∷ t) all
white_completes [] here b t all p h =
    let s = h.1 in (h.0, (b ∷ s.0, s.1, ap (λ (s : List ℕ). b ∷ s) s.2, spells_white b s.0 h.0 p s.3, s.4), h.2)
white_completes (l ∷ ls) here b t all p h = (b ∷ h.0, h.1, h.2, ap (λ (s : List ℕ). b ∷ s) h.3, spells_white b h.0 h.2 p h.4, h.5)

comment_completes : (ls : List Open) (here : Expressions) (c t : List ℕ) (all : Expressions) → HasNoLineFeed c → Completes ls here t all → Completes ls here (semicolon ∷ (c ++ line_feed ∷ t)) all
comment_completes [] here c t all p h =
    let s = h.1 in (h.0, (semicolon ∷ (c ++ line_feed ∷ s.0), s.1, ap (λ (r : List ℕ). semicolon ∷ (c ++ line_feed ∷ r)) s.2 ∙ regroup c s.0 s.1 semicolon line_feed, spells_comment c s.0 h.0 p s.3, s.4), h.2)
comment_completes (l ∷ ls) here c t all p h =
    (semicolon ∷ (c ++ line_feed ∷ h.0), h.1, h.2, ap (λ (r : List ℕ). semicolon ∷ (c ++ line_feed ∷ r)) h.3 ∙ regroup c h.0 (right_parenthesis ∷ h.1) semicolon line_feed, spells_comment c h.0 h.2 p h.4, h.5)

ends_front : (t front back : List ℕ) → t ≡ front ++ back → EndsAtom t → EndsAtom front
ends_front t [] back e h = tt
ends_front t (b ∷ front) back e h = subst EndsAtom e h

atom_spells : (w t : List ℕ) (ys : Expressions) → 0 < length w → AreAtomBytes w → EndsAtom t → Spells t ys → Spells (w ++ t) (more (atom w) ys)
atom_spells w t ys lt bytes ends h = spells_atom w t ys (lt, bytes) ends h

atom_completes : (ls : List Open) (here : Expressions) (w t : List ℕ) (all : Expressions) → 0 < length w → AreAtomBytes w → EndsAtom t → Completes ls (and_last here (atom w)) t all → Completes ls here (w ++ t) all
atom_completes [] here w t all lt bytes ends h =
    let s = h.1 in
    let front = ends_front t s.0 s.1 s.2 ends in
    (more (atom w) h.0, (w ++ s.0, s.1, ap (λ (s : List ℕ). w ++ s) s.2 ∙ sym (append_assoc w s.0 s.1), atom_spells w s.0 h.0 lt bytes front s.3, s.4), h.2 ∙ join_last here (atom w) h.0)
atom_completes (l ∷ ls) here w t all lt bytes ends h =
    let front = ends_front t h.0 (right_parenthesis ∷ h.1) h.3 ends in
    (w ++ h.0, h.1, more (atom w) h.2, ap (λ (s : List ℕ). w ++ s) h.3 ∙ sym (append_assoc w h.0 (right_parenthesis ∷ h.1)), atom_spells w h.0 h.2 lt bytes front h.4, subst (λ (xs : Expressions). Completes ls (and_last l.before (list xs)) h.1 all) (join_last here (atom w) h.2) h.5)

list_spells : (inner t : List ℕ) (xs ys : Expressions) → Spells inner xs → Spells t ys → Spells (left_parenthesis ∷ (inner ++ right_parenthesis ∷ t)) (more (list xs) ys)
list_spells inner t xs ys h k = spells_list inner t xs ys h k

list_completes : (ls : List Open) (here xs : Expressions) (inner t : List ℕ) (all : Expressions) → Spells inner xs → Completes ls (and_last here (list xs)) t all → Completes ls here (left_parenthesis ∷ (inner ++ right_parenthesis ∷ t)) all
list_completes [] here xs inner t all p h =
    let s = h.1 in
    (more (list xs) h.0, (left_parenthesis ∷ (inner ++ right_parenthesis ∷ s.0), s.1, ap (λ (r : List ℕ). left_parenthesis ∷ (inner ++ right_parenthesis ∷ r)) s.2 ∙ regroup inner s.0 s.1 left_parenthesis right_parenthesis, list_spells inner s.0 xs h.0 p s.3, s.4), h.2 ∙ join_last here (list xs) h.0)
list_completes (l ∷ ls) here xs inner t all p h =
    (left_parenthesis ∷ (inner ++ right_parenthesis ∷ h.0), h.1, more (list xs) h.2, ap (λ (r : List ℕ). left_parenthesis ∷ (inner ++ right_parenthesis ∷ r)) h.3 ∙ regroup inner h.0 (right_parenthesis ∷ h.1) left_parenthesis right_parenthesis, list_spells inner h.0 xs h.2 p h.4, subst (λ (zs : Expressions). Completes ls (and_last l.before (list zs)) h.1 all) (join_last here (list xs) h.2) h.5)

open_completes : (l : Open) (ls : List Open) (t : List ℕ) (all : Expressions) → Completes (l ∷ ls) none t all → Completes ls l.before (left_parenthesis ∷ t) all
open_completes l ls t all h =
    subst (λ (s : List ℕ). Completes ls l.before (left_parenthesis ∷ s) all) (sym h.3) (list_completes ls l.before h.2 h.0 h.1 all h.4 h.5)

close_completes : (l : Open) (ls : List Open) (here : Expressions) (t : List ℕ) (all : Expressions) → Completes ls (and_last l.before (list here)) t all → Completes (l ∷ ls) here (right_parenthesis ∷ t) all
close_completes l ls here t all h =
    ([], t, none, refl, spells_none, subst (λ (xs : Expressions). Completes ls (and_last l.before (list xs)) t all) (sym (join_none here)) h)

word_completes : (ls : List Open) (here : Expressions) (w t : List ℕ) (all : Expressions) → AreAtomBytes w → EndsAtom t → Completes ls (with_word here w) t all → Completes ls here (w ++ t) all
word_completes ls here [] t all bytes ends h = h
word_completes ls here (b ∷ w) t all bytes ends h = atom_completes ls here (b ∷ w) t all (omega arith) bytes ends h

-- the bytes of an unfinished word or comment
abbrev pub Pending : Bool → List ℕ → List ℕ → Type 0
Pending true word p = (word ≡ []) × (c : List ℕ) × (p ≡ semicolon ∷ c) × HasNoLineFeed c
Pending false word p = (p ≡ word) × AreAtomBytes word

atom_bytes_push : (w : List ℕ) (b : ℕ) → AreAtomBytes w → is_atom_byte b ≡ true → AreAtomBytes (w ++ b ∷ [])
atom_bytes_push [] b h e = (e, tt)
atom_bytes_push (a ∷ w) b h e = (h.0, atom_bytes_push w b h.1 e)

no_lf_push : (c : List ℕ) (b : ℕ) → HasNoLineFeed c → b ≢ line_feed → HasNoLineFeed (c ++ b ∷ [])
no_lf_push [] b h e = (e, tt)
no_lf_push (a ∷ c) b h e = (h.0, no_lf_push c b h.1 e)

shift : (p : List ℕ) (b : ℕ) (bs : List ℕ) → (p ++ b ∷ []) ++ bs ≡ p ++ b ∷ bs
shift p b bs = append_assoc p (b ∷ []) bs

tail_alone : (c : List ℕ) → HasNoLineFeed c → SpellsText (semicolon ∷ c) none
tail_alone c h = ([], semicolon ∷ c, refl, spells_none, (refl, h))

and_last_join : (xs : Expressions) (y : Expression) → and_last xs y ≡ join xs (more y none)
and_last_join xs y = sym (join_none (and_last xs y)) ∙ join_last xs y none

end_of_word : (here : Expressions) (word : List ℕ) (all : Expressions) → AreAtomBytes word → all ≡ with_word here word → Completes [] here word all
end_of_word here [] all bytes e = (none, ([], [], refl, spells_none, tt), e ∙ sym (join_none here))
end_of_word here (b ∷ w) all bytes e =
    let word : List ℕ = b ∷ w in
    (more (atom word) none, (word ++ [], [], sym (append-nil (word ++ []) ∙ append-nil word), atom_spells word [] none (omega arith) bytes tt spells_none, tt), e ∙ and_last_join here (atom word))

end_completes : (levels : List Open) (here : Expressions) (word p : List ℕ) (all : Expressions) (comment : Bool) → Pending comment word p → finish_on levels (with_word here word) ≡ Ok all → Completes levels here p all
end_completes (l ∷ ls) here word p all comment pends h = absurd cc
end_completes [] here word p all false pends h =
    subst (λ (q : List ℕ). Completes [] here q all) (sym pends.0) (end_of_word here word all pends.1 (sym (ok_is _ _ h)))
end_completes [] here word p all true pends h =
    let same : with_word here word ≡ here = ap (with_word here) pends.0 in
    (none, subst (λ (q : List ℕ). SpellsText q none) (sym pends.2) (tail_alone pends.1 pends.3), sym (ok_is _ _ h) ∙ same ∙ sym (join_none here))

-- from the state t, the rest of the text completes the expressions `all`
abbrev pub Goes : State → List ℕ → Expressions → Type 0
Goes t bs all = (q : List ℕ) → Pending t.comment t.word q → Completes t.levels t.here (q ++ bs) all

comment_advance : (ls : List Open) (here : Expressions) (word p : List ℕ) (b : ℕ) (bs : List ℕ) (all : Expressions) (v : Bool) → (b == line_feed) ≡ v → Pending true word p
    → Goes (record { levels = ls; here = here; word = word; comment = not v }) bs all → Completes ls here (p ++ b ∷ bs) all
comment_advance ls here word p b bs all true e pends ih =
    let rest : Completes ls here bs all = ih [] (sym pends.0, subst AreAtomBytes (sym pends.0) tt) in
    rw (pends.2, eqb-true b line_feed e) (comment_completes ls here pends.1 bs all pends.3 rest)
comment_advance ls here word p b bs all false e pends ih =
    subst (λ (q : List ℕ). Completes ls here q all) (shift p b bs) (ih (p ++ b ∷ []) (pends.0, pends.1 ++ b ∷ [], ap (λ (q : List ℕ). q ++ b ∷ []) pends.2, no_lf_push pends.1 b pends.3 (eqb-false b line_feed e)))

settled : (s : State) (p : List ℕ) (c : List ℕ) (all : Expressions) → s.comment ≡ false → Pending s.comment s.word p → EndsAtom c → Completes s.levels (with_word s.here s.word) c all → Completes s.levels s.here (p ++ c) all
settled s p c all clear pends ends h =
    let at = subst (λ (v : Bool). Pending v s.word p) clear pends in
    subst (λ (q : List ℕ). Completes s.levels s.here (q ++ c) all) (sym at.0) (word_completes s.levels s.here s.word c all at.1 ends h)

-- one byte, in each way that the reader can accept it
advanced : (limit : ℕ) (s t : State) (i b : ℕ) (bs p : List ℕ) (all : Expressions) → Advance limit s t i b → Pending s.comment s.word p → Goes t bs all → Completes s.levels s.here (p ++ b ∷ bs) all
advanced limit s t i b bs p all (in_comment c e) pends ih =
    comment_advance s.levels s.here s.word p b bs all (b == line_feed) refl (subst (λ (v : Bool). Pending v s.word p) c pends) (subst (λ (u : State). Goes u bs all) e ih)
advanced limit s t i b bs p all (in_word c a e) pends ih =
    let at = subst (λ (v : Bool). Pending v s.word p) c pends in
    let go = subst (λ (u : State). Goes u bs all) e ih in
    subst (λ (q : List ℕ). Completes s.levels s.here q all) (shift p b bs) (go (p ++ b ∷ []) (subst (λ (v : Bool). Pending v (s.word ++ b ∷ []) (p ++ b ∷ [])) (sym c) (ap (λ (q : List ℕ). q ++ b ∷ []) at.0, atom_bytes_push s.word b at.1 a)))
advanced limit s t i b bs p all (begins_comment c a is e) pends ih =
    let go = subst (λ (u : State). Goes u bs all) e ih in
    settled s p (b ∷ bs) all c pends a (subst (λ (x : ℕ). Completes s.levels (with_word s.here s.word) (x ∷ bs) all) (sym is) (go (semicolon ∷ []) (refl, [], refl, tt)))
advanced limit s t i b bs p all (opens c a is lt e) pends ih =
    let go = subst (λ (u : State). Goes u bs all) e ih in
    let l : Open = record { before = with_word s.here s.word; at = i } in
    settled s p (b ∷ bs) all c pends a (subst (λ (x : ℕ). Completes s.levels (with_word s.here s.word) (x ∷ bs) all) (sym is) (open_completes l s.levels bs all (go [] (subst (λ (v : Bool). Pending v [] []) (sym c) (refl, tt)))))
advanced limit s t i b bs p all (closes c a is l ls lv e) pends ih =
    let go = subst (λ (u : State). Goes u bs all) e ih in
    let here : Expressions = with_word s.here s.word in
    let one : Completes (l ∷ ls) here (right_parenthesis ∷ bs) all = close_completes l ls here bs all (go [] (subst (λ (v : Bool). Pending v [] []) (sym c) (refl, tt))) in
    settled s p (b ∷ bs) all c pends a (subst (λ (x : ℕ). Completes s.levels here (x ∷ bs) all) (sym is) (subst (λ (ms : List Open). Completes ms here (right_parenthesis ∷ bs) all) (sym lv) one))
advanced limit s t i b bs p all (is_space c a w e) pends ih =
    let go = subst (λ (u : State). Goes u bs all) e ih in
    settled s p (b ∷ bs) all c pends a (white_completes s.levels (with_word s.here s.word) b bs all w (go [] (subst (λ (v : Bool). Pending v [] []) (sym c) (refl, tt))))

-- the pending bytes and the rest of the text spell the result of the run
run_found : (bs : List ℕ) (limit : ℕ) (s : State) (i : ℕ) (p : List ℕ) (all : Expressions) → Pending s.comment s.word p → (run (step limit) s i bs >>= finish) ≡ Ok all → Completes s.levels s.here (p ++ bs) all
unfolding run
run_found [] limit s i p all pends h =
    subst (λ (q : List ℕ). Completes s.levels s.here q all) (sym (append-nil p)) (end_completes s.levels s.here s.word p all s.comment pends h)
run_found (b ∷ bs) limit s i p all pends h =
    let last = bind_ok (run (step limit) s i (b ∷ bs)) finish all h in
    let first = bind_ok (step limit s i b) (λ t. run (step limit) t (suc i) bs) last.0 last.1 in
    let t = first.0 in
    let rest : (run (step limit) t (suc i) bs >>= finish) ≡ Ok all = ap (λ r. r >>= finish) first.2 ∙ last.2 in
    advanced limit s t i b bs p all (advance limit s i b t first.1) pends (λ q at. run_found bs limit t (suc i) q all at rest)

pub read_found : (limit : ℕ) (text : List ℕ) (all : Expressions) → read limit text ≡ Ok all → SpellsText text all
read_found limit text all h =
    let done = run_found text limit start 0 [] all (refl, tt) h in
    subst (SpellsText text) (sym done.2) done.1
