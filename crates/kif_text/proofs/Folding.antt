-- The loop that converts the members of a list to lower case in place.
use Rattle.std.proofs.Common.{◌≡◌, ℕ, ◌+◌, ◌<◌, ◌≤◌, List, [], ◌∷◌, ◌++◌, map, take, drop, set, get_or, length, refl, sym, ap, ◌∙◌, arith}
use Rattle.std.proofs.lemmas.List.{map-set, get_or-map, length-map, append-nil, take_all, drop_all}
use Rattle.std.proofs.lemmas.List.Edits.{map_over_more}
use Rattle.game_core.specs.Expression.{Expression, more, folded, all_folded}
use Rattle.kif_text.specs.View.{expressions, view, views}
use Rattle.kif_text.specs.declared.expr.Expr.{Expr}

pub fold_one_more : (xs ys : List Expr) (i : ℕ) (x y : Expr) → i < length xs → i < length ys → x ≡ get_or ys i x → view y ≡ folded (view x)
    → map view ys ≡ map folded (take i (map view xs)) ++ drop i (map view xs)
    → map view (set ys i y) ≡ map folded (take (i + 1) (map view xs)) ++ drop (i + 1) (map view xs)
fold_one_more xs ys i x y lt lt2 is e h =
    let within : i < length (map view xs) = omega (arith, length-map (xs) view) in
    let at : view x ≡ get_or (map view ys) i (view x) = ap view is ∙ sym (get_or-map view ys i x (view x) lt2) in
    map-set view ys i y ∙ ap (set (map view ys) i) e ∙ map_over_more folded (map view xs) (map view ys) i (view x) within h at

pub all_folded-expressions : (fs : List Expression) → expressions (map folded fs) ≡ all_folded (expressions fs)
all_folded-expressions [] = refl
all_folded-expressions (f ∷ fs) = ap (more (folded f)) (all_folded-expressions fs)

pub folded_all : (xs ys : List Expr) (i : ℕ) → length xs ≤ i → map view ys ≡ map folded (take i (map view xs)) ++ drop i (map view xs) → views ys ≡ all_folded (views xs)
folded_all xs ys i le h =
    let past : length (map view xs) ≤ i = omega (arith, length-map (xs) view) in
    let front : take i (map view xs) ≡ map view xs = take_all i (map view xs) past in
    let back : drop i (map view xs) ≡ [] = drop_all i (map view xs) past in
    ap expressions (h ∙ ap (λ (fs : List Expression). map folded fs ++ drop i (map view xs)) front ∙ ap (λ (fs : List Expression). map folded (map view xs) ++ fs) back ∙ append-nil (map folded (map view xs))) ∙ all_folded-expressions (map view xs)
