-- One level of an `Expr`, and the reader's state after each change.
use Rattle.std.proofs.Common.{◌≡◌, ℕ, suc, Bool, Ok, List, [], ◌∷◌, ◌++◌, map, reverse, Vec, Global, refl, ap, rules, length, ◌<◌, arith}
use Rattle.std.proofs.lemmas.List.{reverse-append, map-append}
use Rattle.game_core.specs.Expression.{atom, list, Expressions, more}
use Rattle.kif_text.specs.View.{view, views}
use Rattle.kif_text.specs.Machine.{Open, and_last, with_word, count_of, last_of}
use Rattle.kif_text.specs.Internal.Following.{open_of, flush}
use Rattle.kif_text.specs.declared.expr.Expr.{Expr, Atom, List as ListOf, the_lemmas}
use Rattle.kif_text.specs.declared.reader.OpenList.{OpenList}

pub view-Atom : (w : List ℕ) → view (Atom w) ≡ atom w
view-Atom w = search (rules, the_lemmas)

pub view-List : (v : Vec Expr Global) → view (ListOf v) ≡ list (views v.items)
view-List v = search (rules, the_lemmas)

pub views_push : (xs : List Expr) (e : Expr) → views (xs ++ e ∷ []) ≡ and_last (views xs) (view e)
views_push [] e = refl
views_push (x ∷ xs) e = ap (more (view x)) (views_push xs e)

pub with_some_word : (xs : Expressions) (w : List ℕ) → 0 < length w → with_word xs w ≡ and_last xs (atom w)
with_some_word xs [] lt = absurd (omega arith)
with_some_word xs (b ∷ bs) lt = refl

-- the innermost list is removed
pub levels_pop : (ls ms : List OpenList) (l : OpenList) → ls ≡ ms ++ l ∷ [] → reverse (map open_of ls) ≡ open_of l ∷ reverse (map open_of ms)
levels_pop ls ms l e = rw (e, map-append) (reverse-append (map open_of ms) (open_of l ∷ []))

-- the state after an atom has ended
pub flushed_is : (levels : List Open) (here here' : Expressions) (word word' : List ℕ) (comment : Bool) → 0 < length word → here' ≡ and_last here (atom word) → word' ≡ []
    → flush (record { levels = levels; here = here; word = word; comment = comment }) ≡ Ok (record { levels = levels; here = here'; word = word'; comment = comment })
flushed_is levels here here' word word' comment lt e n = rw (e, n, with_some_word here word lt) refl

pub count_of_views : (xs : List Expr) → count_of (views xs) ≡ length xs
count_of_views [] = refl
count_of_views (x ∷ xs) = ap suc (count_of_views xs)

pub last_views : (xs : List Expr) (e : Expr) → last_of (views (xs ++ e ∷ [])) ≡ Ok (view e)
last_views [] e = refl
last_views (x ∷ []) e = refl
last_views (x ∷ y ∷ xs) e = last_views (y ∷ xs) e
