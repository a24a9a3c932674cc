-- Lists of names, one name after another.
use Rattle.std.proofs.Common.{◌≡◌, ◌≢◌, ℕ, ◌+◌, ◌<◌, Bool, true, false, not, ◌&&◌, ◌||◌, bytes_eq, List, [], ◌∷◌, ◌++◌, drop, length, get_or, refl, sym, ap, ◌∙◌, append_assoc, append-nil}
use mathlib.Core.Bool.{and-false}
use Rattle.std.proofs.lemmas.List.{at_drop_more}
use Rattle.std.specs.List.{list_any}
use Rattle.ground_rules.specs.Lawfulness.Bools.{and-left, and-right, and-both, not-true, not-false, or-left, or-right, or-false-left, or-false-right, bool-same}
use Rattle.ground_rules.specs.Lawfulness.Names.{text-sound, text-same}
use Rattle.rule_sentences.specs.Descriptions.{is_among, with_new, role_names, name_in, are_different}
use Rattle.rule_sentences.specs.SentenceViews.{rules_of}
use Rattle.rule_sentences.specs.declared.sentence.Rule.{Rule as CodeRule}

pub among-left : (xs ys : List (List ℕ)) (t : List ℕ) → is_among xs t ≡ true → is_among (xs ++ ys) t ≡ true
among-left [] ys t h = absurd cc
among-left (x ∷ xs) ys t h = by-head (bytes_eq x t) (among-left xs ys t) h
  where
    by-head : (b : Bool) → (is_among xs t ≡ true → is_among (xs ++ ys) t ≡ true) → (b || is_among xs t) ≡ true → (b || is_among (xs ++ ys) t) ≡ true
    by-head true rest e = refl
    by-head false rest e = rest e

pub among-right : (xs ys : List (List ℕ)) (t : List ℕ) → is_among ys t ≡ true → is_among (xs ++ ys) t ≡ true
among-right [] ys t h = h
among-right (x ∷ xs) ys t h = or-right _ _ (among-right xs ys t h)

pub eq-swap : (x t : List ℕ) → bytes_eq x t ≡ bytes_eq t x
eq-swap x t = bool-same (bytes_eq x t) (bytes_eq t x) (λ e. text-same t x (sym (text-sound x t e))) (λ e. text-same x t (sym (text-sound t x e)))

pub among-any : (xs : List (List ℕ)) (t : List ℕ) → is_among xs t ≡ list_any (bytes_eq t) xs
among-any [] t = refl
among-any (x ∷ xs) t = let e = eq-swap x t in let f = among-any xs t in cc

pub repeated : (xs ys : List (List ℕ)) (n : List ℕ) → list_any (bytes_eq n) xs ≡ true → are_different (xs ++ n ∷ ys) ≡ false
repeated [] ys n h = absurd cc
repeated (x ∷ xs) ys n h = by-head (bytes_eq n x) refl (repeated xs ys n) h
  where
    by-head : (b : Bool) → bytes_eq n x ≡ b → (list_any (bytes_eq n) xs ≡ true → are_different (xs ++ n ∷ ys) ≡ false) → (b || list_any (bytes_eq n) xs) ≡ true → (not (is_among (xs ++ n ∷ ys) x) && are_different (xs ++ n ∷ ys)) ≡ false
    by-head true is rest e = let f : is_among (xs ++ n ∷ ys) x ≡ true = among-right xs (n ∷ ys) x (or-left _ _ is) in rw f refl
    by-head false is rest e = rw (rest e) (and-false (not (is_among (xs ++ n ∷ ys) x)))

neither : (xs : List (List ℕ)) (n x : List ℕ) → is_among xs x ≡ false → bytes_eq n x ≡ false → is_among (xs ++ n ∷ []) x ≡ false
neither [] n x h ne = rw ne refl
neither (y ∷ ys) n x h ne = rw (or-false-left (bytes_eq y x) _ h) (neither ys n x (or-false-right (bytes_eq y x) _ h) ne)

-- adding a new name to a list of different names gives a list of different names
pub not-repeated : (xs : List (List ℕ)) (n : List ℕ) → are_different xs ≡ true → list_any (bytes_eq n) xs ≡ false → are_different (xs ++ n ∷ []) ≡ true
not-repeated [] n h new = refl
not-repeated (x ∷ xs) n h new =
    and-both (not (is_among (xs ++ n ∷ []) x)) _
    (not-false _ (neither xs n x (not-true _ (and-left (not (is_among xs x)) _ h)) (or-false-left (bytes_eq n x) _ new)))
    (not-repeated xs n (and-right (not (is_among xs x)) _ h) (or-false-right (bytes_eq n x) _ new))

pub names-at : (seen whole : List (List ℕ)) (rs : List CodeRule) (i : ℕ) (d : CodeRule) → i < length rs → seen ++ role_names (rules_of (drop i rs)) ≡ whole → seen ++ name_in (get_or rs i d).head ++ role_names (rules_of (drop (i + 1) rs)) ≡ whole
names-at seen whole rs i d lt e = append_assoc seen (name_in (get_or rs i d).head) (role_names (rules_of (drop (i + 1) rs))) ∙ ap (λ xs. seen ++ role_names xs) (sym (at_drop_more rules_of rs i d lt)) ∙ e

pub found-by : (there new : Bool) → new ≡ not there → new ≡ false → there ≡ true
found-by true new e f = refl
found-by false new e f = let g : true ≡ false = sym e ∙ f in absurd cc

pub new-by : (there new : Bool) → new ≡ not there → new ≡ true → there ≡ false
new-by true new e f = let g : false ≡ true = sym e ∙ f in absurd cc
new-by false new e f = refl

pub name-between : (seen whole rest here : List (List ℕ)) (n : List ℕ) → here ≡ n ∷ [] → seen ++ here ++ rest ≡ whole → seen ++ n ∷ rest ≡ whole
name-between seen whole rest here n is e = sym (append_assoc seen (n ∷ []) rest) ∙ ap (λ x. seen ++ x ++ rest) (sym is) ∙ e

pub no-name-between : (seen whole rest here : List (List ℕ)) → here ≡ [] → seen ++ here ++ rest ≡ whole → seen ++ rest ≡ whole
no-name-between seen whole rest here is e = ap (λ x. x ++ rest) (sym (append-nil seen)) ∙ ap (λ x. seen ++ x ++ rest) (sym is) ∙ e

pub new-name : (seen : List (List ℕ)) (n : List ℕ) → list_any (bytes_eq n) seen ≡ false → with_new bytes_eq seen n ≡ seen ++ n ∷ []
new-name seen n h = rw h refl

pub some-name : (seen : List (List ℕ)) (n : List ℕ) (rest whole : List (List ℕ)) → seen ++ n ∷ rest ≡ whole → whole ≢ []
some-name [] n rest whole e none = let f : n ∷ rest ≡ [] = e ∙ none in absurd cc
some-name (x ∷ xs) n rest whole e none = let f : x ∷ (xs ++ n ∷ rest) ≡ [] = e ∙ none in absurd cc
