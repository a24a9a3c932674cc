-- The loop that converts the sentences to lower case in place.
use Rattle.std.proofs.Common.{◌≡◌, ℕ, ◌+◌, ◌<◌, ◌≤◌, List, [], ◌++◌, map, take, drop, set, get_or, length, sym, ap, ◌∙◌, arith}
use Rattle.std.proofs.lemmas.List.{map-set, get_or-map, length-map, append-nil, take_all, drop_all}
use Rattle.std.proofs.lemmas.List.Edits.{map_over_more}
use Rattle.game_core.specs.Expression.{Expression, folded}
use Rattle.kif_text.specs.View.{view}
use Rattle.kif_text.specs.declared.expr.Expr.{Expr}

pub one-more-folded : (xs ys : List Expr) (i : ℕ) (d y : Expr) → i < length xs → i < length ys → view y ≡ folded (view (get_or ys i d))
    → map view ys ≡ map folded (take i (map view xs)) ++ drop i (map view xs)
    → map view (set ys i y) ≡ map folded (take (i + 1) (map view xs)) ++ drop (i + 1) (map view xs)
one-more-folded xs ys i d y lt lt2 e h =
    let x = view (get_or ys i d) in
    let within : i < length (map view xs) = omega (arith, length-map (xs) view) in
    let at : x ≡ get_or (map view ys) i x = sym (get_or-map view ys i d x lt2) in
    map-set view ys i y ∙ ap (set (map view ys) i) e ∙ map_over_more folded (map view xs) (map view ys) i x within h at

pub each-folded : (xs ys : List Expr) (i : ℕ) → length xs ≤ i → map view ys ≡ map folded (take i (map view xs)) ++ drop i (map view xs) → map view ys ≡ map folded (map view xs)
each-folded xs ys i le h =
    let past : length (map view xs) ≤ i = omega (arith, length-map (xs) view) in
    let front : take i (map view xs) ≡ map view xs = take_all i (map view xs) past in
    let back : drop i (map view xs) ≡ [] = drop_all i (map view xs) past in
    h ∙ ap (λ (fs : List Expression). map folded fs ++ drop i (map view xs)) front ∙ ap (λ (fs : List Expression). map folded (map view xs) ++ fs) back ∙ append-nil (map folded (map view xs))
