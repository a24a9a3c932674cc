-- The expressions that the reader accepts are nested no deeper than the limit.
use Rattle.std.proofs.Common.{◌≡◌, ℕ, suc, ◌+◌, ◌≤◌, max, List, [], ◌∷◌, length, Ok, sym, subst, arith}
use Rattle.game_core.specs.Expression.{Expression, atom, list, Expressions, none, more, depth, depth_all}
use Rattle.kif_text.specs.Machine.{Open, State, start, and_last, with_word, step, run, finish_on, finish, read}
use Rattle.kif_text.proofs.Advances.{Advance, in_comment, in_word, begins_comment, opens, closes, is_space, advance, bind_ok, ok_is}

-- the expressions read at each level are nested no deeper than the limit allows at that level
abbrev Nests : ℕ → List Open → Expressions → Type 0
Nests limit [] here = depth_all here ≤ limit
Nests limit (l ∷ ls) here = (depth_all here + suc (length ls) ≤ limit) × Nests limit ls l.before

depth_last : (xs : Expressions) (y : Expression) → depth_all (and_last xs y) ≡ max (depth_all xs) (depth y)
depth_last none y = omega arith
depth_last (more x xs) y = omega (arith, depth_last xs y)

nests_last : (limit : ℕ) (ls : List Open) (xs : Expressions) (y : Expression) → Nests limit ls xs → depth y + length ls ≤ limit → Nests limit ls (and_last xs y)
nests_last limit [] xs y h le = omega (arith, depth_last xs y)
nests_last limit (l ∷ ls) xs y h le = (omega (arith, depth_last xs y, h.0), h.1)

bound : (limit : ℕ) (ls : List Open) (xs : Expressions) → Nests limit ls xs → length ls ≤ limit
bound limit [] xs h = omega arith
bound limit (l ∷ ls) xs h = omega (arith, h.0)

nests_word : (limit : ℕ) (ls : List Open) (xs : Expressions) (w : List ℕ) → Nests limit ls xs → Nests limit ls (with_word xs w)
nests_word limit ls xs [] h = h
nests_word limit ls xs (b ∷ w) h = nests_last limit ls xs (atom (b ∷ w)) h (omega (arith, bound limit ls xs h))

nests_advance : (limit : ℕ) (s t : State) (i b : ℕ) → Advance limit s t i b → Nests limit s.levels s.here → Nests limit t.levels t.here
nests_advance limit s t i b (in_comment c e) h = subst (λ (u : State). Nests limit u.levels u.here) (sym e) h
nests_advance limit s t i b (in_word c a e) h = subst (λ (u : State). Nests limit u.levels u.here) (sym e) h
nests_advance limit s t i b (begins_comment c a is e) h = subst (λ (u : State). Nests limit u.levels u.here) (sym e) (nests_word limit s.levels s.here s.word h)
nests_advance limit s t i b (opens c a is lt e) h = subst (λ (u : State). Nests limit u.levels u.here) (sym e) (omega arith, nests_word limit s.levels s.here s.word h)
nests_advance limit s t i b (closes c a is l ls lv e) h =
    let g = subst (λ (ms : List Open). Nests limit ms (with_word s.here s.word)) lv (nests_word limit s.levels s.here s.word h) in
    subst (λ (u : State). Nests limit u.levels u.here) (sym e) (nests_last limit ls l.before (list (with_word s.here s.word)) g.1 (omega (arith, g.0)))
nests_advance limit s t i b (is_space c a w e) h = subst (λ (u : State). Nests limit u.levels u.here) (sym e) (nests_word limit s.levels s.here s.word h)

nests_run : (bs : List ℕ) (limit : ℕ) (s t : State) (i : ℕ) → run (step limit) s i bs ≡ Ok t → Nests limit s.levels s.here → Nests limit t.levels t.here
unfolding run
nests_run [] limit s t i e h = subst (λ (u : State). Nests limit u.levels u.here) (ok_is s t e) h
nests_run (b ∷ bs) limit s t i e h =
    let first = bind_ok (step limit s i b) (λ u. run (step limit) u (suc i) bs) t e in
    nests_run bs limit first.0 t (suc i) first.2 (nests_advance limit s first.0 i b (advance limit s i b first.0 first.1) h)

nests_finish : (limit : ℕ) (ls : List Open) (xs all : Expressions) → finish_on ls xs ≡ Ok all → Nests limit ls xs → depth_all all ≤ limit
nests_finish limit [] xs all e h = subst (λ (ys : Expressions). depth_all ys ≤ limit) (ok_is xs all e) h
nests_finish limit (l ∷ ls) xs all e h = absurd cc

pub read_nests : (limit : ℕ) (text : List ℕ) (all : Expressions) → read limit text ≡ Ok all → depth_all all ≤ limit
read_nests limit text all h =
    let last = bind_ok (run (step limit) start 0 text) finish all h in
    let s = last.0 in
    nests_finish limit s.levels (with_word s.here s.word) all last.2 (nests_word limit s.levels s.here s.word (nests_run text limit start s 0 last.1 (omega arith)))
