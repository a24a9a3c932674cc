-- Placing one more match, and the first match that cannot follow the earlier ones.
use Rattle.std.proofs.Common.{◌≡◌, ◌≢◌, ◌||◌, ◌+◌, ◌∙◌, ◌∷◌, ◌++◌, [], ℕ, ◌<◌, Bool, true, false, eqb, List, All, Bor, Some, None, get_or, if◌then◌else◌, length, map, not, take, refl, sym, ap, subst, inl, inr, arith, eqb-true, eq-eqb, ne_eqb}
use Rattle.std.specs.List.{AllPairs, AllZip, filter, list_any}
use Rattle.std.specs.Str.{bytes_eq}
use Rattle.std.specs.Str.Lines.{strip_carriage_return}
use Rattle.std.proofs.lemmas.Bool.{both_ways, cases_lt, cond-false, cond-true, not_from_false, or_parts}
use Rattle.std.proofs.lemmas.List.{get_or_append_left, get_or_default, get_or_push, length_push, map_push, map-append}
use Rattle.std.proofs.lemmas.List.Elements.{All-cons, All-nil, All-weaker, filter-append}
use Rattle.std.proofs.lemmas.Slice.Eq.{bytes_eq-Decides}
use Rattle.match_plans.specs.Schedules.{AreMatchesOf, HaveIdsOnce, IsBadLine, IsFaultOf, IsPlanned, line_words, match_words, misplaced, is_blank_or_comment}
use Rattle.match_plans.specs.declared.plan.MatchPlan.{MatchPlan}
use Rattle.match_plans.specs.declared.schedule_fault.LineFault.{LineFault}
use Rattle.match_plans.specs.declared.schedule_fault.LineFault.TheVariants.{IdTwice, WrongPlayers}
use Rattle.match_plans.specs.declared.schedule_fault.ScheduleFault.TheVariants.{BadLine}
use Rattle.match_plans.proofs.Words.{zip-push}

pub any-map : {A : Type 0} (f : A → List ℕ) (p : List ℕ → Bool) (xs : List A) → list_any (λ x. p (f x)) xs ≡ list_any p (map f xs)
any-map f p [] = refl
any-map f p (x ∷ xs) = ap (λ (b : Bool). p (f x) || b) (any-map f p xs)

none-of : {A : Type 0} (p : A → Bool) (xs : List A) → list_any p xs ≡ false → All (λ x. p x ≡ false) xs
none-of p [] none = All-nil (λ x. p x ≡ false)
none-of p (x ∷ xs) none = let parts = or_parts (p x) (list_any p xs) none in All-cons (λ x. p x ≡ false) x xs parts.0 (none-of p xs parts.1)

pairs-push : {A : Type 0} (R : A → A → Type 0) (xs : List A) (x : A) → AllPairs R xs → All (λ y. R y x) xs → AllPairs R (xs ++ x ∷ [])
pairs-push R xs x before new i j d lt within =
    let more = xs ++ x ∷ [] in
    elim (cases_lt j (length xs)) [
      | inl below ↦
          let first = get_or_append_left xs (x ∷ []) d i (omega (arith, lt, below)) in
          let second = get_or_append_left xs (x ∷ []) d j below in
          subst (λ a. R a (get_or more j d)) (sym first) (subst (λ b. R (get_or xs i d) b) (sym second) (before i j d lt below))
      | inr past ↦
          let at : length xs ≡ j = omega (arith, past, within, length_push xs x) in
          let first = get_or_append_left xs (x ∷ []) d i (omega (arith, lt, at)) in
          let second = get_or_push xs x d j at in
          subst (λ a. R a (get_or more j d)) (sym first) (subst (λ b. R (get_or xs i d) b) (sym second) (new i d (omega (arith, lt, at))))
    ]

pub once-more : (plans : List MatchPlan) (plan : MatchPlan) → HaveIdsOnce plans → list_any (bytes_eq plan.id.now) (map (λ it. it.id.now) plans) ≡ false → HaveIdsOnce (plans ++ plan ∷ [])
once-more plans plan before none =
    let P : MatchPlan → Type 0 = λ it. bytes_eq plan.id.now it.id.now ≡ false in
    let Q : MatchPlan → Type 0 = λ it. plan.id.now ≢ it.id.now in
    pairs-push (λ a b. b.id.now ≢ a.id.now) plans plan before
    (All-weaker P Q (λ it other e. both_ways (bytes_eq plan.id.now it.id.now) other ((bytes_eq-Decides plan.id.now it.id.now).1 e)) plans
    (none-of (λ it. bytes_eq plan.id.now it.id.now) plans (any-map (λ (it : MatchPlan). it.id.now) (bytes_eq plan.id.now) plans ∙ none)))

pub id-twice : (roles : ℕ) (ids : List (List ℕ)) (id : List ℕ) (players : ℕ) → players ≡ roles → list_any (bytes_eq id) ids ≡ true → Some IdTwice ≡ misplaced roles ids id players
id-twice roles ids id players same there =
    sym (cond-true (eqb players roles) (if list_any (bytes_eq id) ids then Some IdTwice else None) (Some WrongPlayers) (eq-eqb players roles same)
    ∙ cond-true (list_any (bytes_eq id) ids) (Some IdTwice) None there)

pub well-placed : (roles : ℕ) (ids : List (List ℕ)) (id : List ℕ) (players : ℕ) → players ≡ roles → list_any (bytes_eq id) ids ≡ false → None ≡ misplaced roles ids id players
well-placed roles ids id players same new =
    sym (cond-true (eqb players roles) (if list_any (bytes_eq id) ids then Some IdTwice else None) (Some WrongPlayers) (eq-eqb players roles same)
    ∙ cond-false (list_any (bytes_eq id) ids) (Some IdTwice) None new)

-- what holds for a match without an error
pub placed : (roles : ℕ) (ids : List (List ℕ)) (id : List ℕ) (players : ℕ) → None ≡ misplaced roles ids id players → (players ≡ roles) × (list_any (bytes_eq id) ids ≡ false)
placed roles ids id players = by (eqb players roles) (list_any (bytes_eq id) ids) refl refl
  where
    by : (a b : Bool) → eqb players roles ≡ a → list_any (bytes_eq id) ids ≡ b → None ≡ (if a then (if b then Some IdTwice else None) else Some WrongPlayers)
        → (players ≡ roles) × (list_any (bytes_eq id) ids ≡ false)
    by true false same new none = (eqb-true players roles same, new)
    by true true same new none = let bad : ⊥ = cc in absurd bad
    by false b same new none = let bad : ⊥ = cc in absurd bad

one-more : (lines : List (List ℕ)) (line : List ℕ) → is_blank_or_comment (line_words (strip_carriage_return line)) ≡ false
    → match_words (lines ++ line ∷ []) ≡ match_words lines ++ line_words (strip_carriage_return line) ∷ []
one-more lines line tells =
    let words = λ (l : List ℕ). line_words (strip_carriage_return l) in
    let kept = λ (ws : List (List ℕ)). not (is_blank_or_comment ws) in
    ap (filter kept) (map-append words lines (line ∷ [])) ∙ filter-append kept (map words lines) (words line ∷ [])
    ∙ ap (λ more. match_words lines ++ more) (cond-true (kept (words line)) (words line ∷ []) [] (not_from_false _ tells))

pub next : (strikes : ℕ) (lines : List (Bor (List ℕ))) (line : Bor (List ℕ)) (words : List (List ℕ)) (plans : List MatchPlan) (plan : MatchPlan) → words ≡ line_words (strip_carriage_return line.now) → is_blank_or_comment words ≡ false
    → AllZip (IsPlanned strikes) (match_words (map (λ it. it.now) lines)) plans → IsPlanned strikes words plan
    → AllZip (IsPlanned strikes) (match_words (map (λ it. it.now) (lines ++ line ∷ []))) (plans ++ plan ∷ [])
next strikes lines line words plans plan are tells before here =
    let more : match_words (map (λ it. it.now) (lines ++ line ∷ [])) ≡ match_words (map (λ it. it.now) lines) ++ words ∷ [] =
    ap match_words (map_push (λ (it : Bor (List ℕ)). it.now) lines line)
    ∙ one-more (map (λ it. it.now) lines) line.now (subst (λ ws. is_blank_or_comment ws ≡ false) are tells)
    ∙ ap (λ ws. match_words (map (λ it. it.now) lines) ++ ws ∷ []) (sym are) in
    subst (λ ws. AllZip (IsPlanned strikes) ws (plans ++ plan ∷ [])) (sym more) (zip-push (IsPlanned strikes) _ plans words plan before here)

pub bad-line : (roles strikes : ℕ) (lines : List (List ℕ)) (at : ℕ) (line : List ℕ) (words : List (List ℕ)) (before : List MatchPlan) (fault : LineFault)
    → (at < length lines) × (line ≡ get_or lines at line) → words ≡ line_words (strip_carriage_return line)
    → AreMatchesOf roles strikes (take at lines) before → IsFaultOf roles strikes before words fault → IsBadLine roles strikes lines (BadLine (at + 1) fault)
bad-line roles strikes lines at line words before fault turn are good bad =
    let here : words ≡ line_words (strip_carriage_return (get_or lines at [])) =
    are ∙ ap (λ (l : List ℕ). line_words (strip_carriage_return l)) (turn.1 ∙ get_or_default lines at line [] turn.0) in (
      at,
      refl,
      record {
        within = turn.0;
        before = before;
        are_good = good;
        is_bad = subst (λ ws. IsFaultOf roles strikes before ws fault) here bad;
      },
    )
