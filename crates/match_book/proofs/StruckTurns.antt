-- Substitutions in a row, and the roles that they retire.
use Rattle.std.proofs.Common.{◌≡◌, ℕ, zero, suc, ◌+◌, ◌<◌, ◌≤◌, Bool, true, false, eqb, List, [], ◌∷◌, ◌++◌, length, refl, arith, ap, sym, ◌∙◌, length-append}
use Rattle.std.proofs.lemmas.List.{length-replicate}
use Rattle.std.proofs.lemmas.Bool.Decides.{nat_tests}
use Rattle.std.specs.Prelude.{All, if◌then◌else◌, ◌||◌, ◌&&◌, ◌==◌, nat_le, replicate, slice_index_or}
use Rattle.match_book.specs.MatchValue.{is_error}
use Rattle.match_book.specs.Roles.{every_role}
use Rattle.match_book.specs.Retirement.{is_struck, begin_struck, some_struck, retired_by}
use Rattle.match_book.specs.Phase.{max_turns}
use Rattle.match_book.specs.RoleStrikes.{all_struck, in_a_row, role_strikes, is_enough, after_turn, unstruck, is_retired_in, count_roles, AreStrikes}
use Rattle.match_book.specs.declared.retirement.RoleStrikes.{RoleStrikes}
use Rattle.match_book.specs.declared.turn.Turn.{Turn}
use Rattle.match_book.proofs.RoleTests.{count_roles-same, every_role-count, every_role-but}

pub retired_by-never : {M : Type 0} (turns : List (Turn M)) (r : ℕ) → retired_by 0 turns r ≡ false
unfolding retired_by
retired_by-never turns r = refl

pub retired_by-none : (M : Type 0) (strikes r : ℕ) → retired_by {M = M} strikes [] r ≡ false
unfolding retired_by
retired_by-none M strikes r = step (strikes == 0)
  where
    step : (b : Bool) → (if b then false else false) ≡ false
    step true = refl
    step false = refl

not_zero : (k : ℕ) → (suc k == 0) ≡ false
not_zero k = grind (arith, nat_tests)

not_one : (k : ℕ) → eqb (suc (suc k)) 1 ≡ false
not_one k = grind (arith, nat_tests)

past_one : (k : ℕ) → nat_le (suc (suc k)) 1 ≡ false
past_one k = grind (arith, nat_tests)

past_zero : (k : ℕ) → nat_le (suc k) 0 ≡ false
past_zero k = grind (arith, nat_tests)

one_more : (k n : ℕ) → eqb (suc k) (suc n + 1) ≡ eqb k (n + 1)
one_more k n = grind (arith, nat_tests)

and_false : (c : Bool) → (c && false) ≡ false
and_false true = refl
and_false false = refl

and_true : (c : Bool) → (c && true) ≡ c
and_true true = refl
and_true false = refl

enough-none : (k : ℕ) → is_enough k 0 ≡ false
enough-none zero = refl
enough-none (suc k) = rw (not_zero k) (past_zero k)

module _ {M : Type 0} (role : ℕ) where
  all_struck-push : (ts : List (Turn M)) (t : Turn M) → all_struck role (ts ++ t ∷ []) ≡ (all_struck role ts && is_struck role t)
  all_struck-push [] t = step (is_struck role t)
    where
      step : (b : Bool) → (if b then true else false) ≡ (true && b)
      step true = refl
      step false = refl
  all_struck-push (x ∷ xs) t = step (is_struck role x) (all_struck role (xs ++ t ∷ [])) (all_struck role xs) (is_struck role t) (all_struck-push xs t)
    where
      step : (b l a c : Bool) → l ≡ (a && c) → (if b then l else false) ≡ ((if b then a else false) && c)
      step true l a c e = e
      step false l a c e = refl

  in_a_row-all : (ts : List (Turn M)) → all_struck role ts ≡ true → in_a_row role ts ≡ length ts
  in_a_row-all [] all = refl
  in_a_row-all (t ∷ ts) all = step (all_struck role (t ∷ ts)) all
    where
      step : (b : Bool) → b ≡ true → (if b then suc (length ts) else in_a_row role ts) ≡ suc (length ts)
      step true e = refl
      step false e = absurd cc

  pub in_a_row-le : (ts : List (Turn M)) → in_a_row role ts ≤ length ts
  in_a_row-le [] = omega arith
  in_a_row-le (t ∷ ts) = step (all_struck role (t ∷ ts)) (in_a_row-le ts)
    where
      step : (b : Bool) → in_a_row role ts ≤ length ts → (if b then suc (length ts) else in_a_row role ts) ≤ suc (length ts)
      step true le = omega arith
      step false le = omega arith

  in_a_row-push : (ts : List (Turn M)) (t : Turn M) → in_a_row role (ts ++ t ∷ []) ≡ (if is_struck role t then in_a_row role ts + 1 else 0)
  in_a_row-push [] t = step (is_struck role t)
    where
      step : (b : Bool) → (if (if b then true else false) then 1 else 0) ≡ (if b then 0 + 1 else 0)
      step true = refl
      step false = refl
  in_a_row-push (x ∷ xs) t = step (all_struck role (x ∷ xs)) (is_struck role t) (all_struck role (x ∷ (xs ++ t ∷ []))) refl (all_struck-push (x ∷ xs) t) (in_a_row-push xs t)
    where
      step : (a s b : Bool) → all_struck role (x ∷ xs) ≡ a → b ≡ (a && s) → in_a_row role (xs ++ t ∷ []) ≡ (if s then in_a_row role xs + 1 else 0)
          → (if b then suc (length (xs ++ t ∷ [])) else in_a_row role (xs ++ t ∷ [])) ≡ (if s then (if a then suc (length xs) else in_a_row role xs) + 1 else 0)
      step true true true is e later = omega (arith, length-append xs (t ∷ []))
      step true true false is e later = absurd cc
      step true false true is e later = absurd cc
      step true false false is e later = later
      step false true true is e later = absurd cc
      step false true false is e later = later
      step false false true is e later = absurd cc
      step false false false is e later = later

  begin_struck-push : (k : ℕ) (ts : List (Turn M)) (t : Turn M) → begin_struck k role (ts ++ t ∷ []) ≡ (begin_struck k role ts || (eqb k (length ts + 1) && all_struck role (ts ++ t ∷ [])))
  begin_struck-push zero ts t = refl
  begin_struck-push (suc k) [] t = step k (is_struck role t)
    where
      rest : (j : ℕ) → begin_struck {M = M} j role [] ≡ (eqb (suc j) 1 && true)
      rest zero = refl
      rest (suc j) = sym (and_true (eqb (suc (suc j)) 1) ∙ not_one j)

      step : (j : ℕ) (b : Bool) → (if b then begin_struck {M = M} j role [] else false) ≡ (false || (eqb (suc j) 1 && (if b then true else false)))
      step j true = rest j
      step j false = sym (and_false (eqb (suc j) 1))
  begin_struck-push (suc k) (x ∷ xs) t = step (is_struck role x) (begin_struck k role (xs ++ t ∷ [])) (begin_struck k role xs) (all_struck role (xs ++ t ∷ [])) (begin_struck-push k xs t)
    where
      step : (b l a c : Bool) → l ≡ (a || (eqb k (length xs + 1) && c)) → (if b then l else false) ≡ ((if b then a else false) || (eqb (suc k) (suc (length xs) + 1) && (if b then c else false)))
      step true l a c e = e ∙ ap (λ b. a || (b && c)) (sym (one_more k (length xs)))
      step false l a c e = sym (and_false (eqb (suc k) (suc (length xs) + 1)))

  some_struck-push : (k : ℕ) (ts : List (Turn M)) (t : Turn M) → 1 ≤ k → some_struck k role (ts ++ t ∷ []) ≡ (some_struck k role ts || nat_le k (in_a_row role (ts ++ t ∷ [])))
  some_struck-push zero ts t le = absurd (omega arith)
  some_struck-push (suc k) [] t le = step k (is_struck role t)
    where
      rest : (j : ℕ) → (if begin_struck {M = M} j role [] then true else false) ≡ nat_le (suc j) 1
      rest zero = refl
      rest (suc j) = sym (past_one j)

      step : (j : ℕ) (b : Bool) → (if (if b then begin_struck {M = M} j role [] else false) then true else false) ≡ (false || nat_le (suc j) (if (if b then true else false) then 1 else 0))
      step j true = rest j
      step j false = sym (past_zero j)
  some_struck-push (suc k) (x ∷ xs) t le =
      step (begin_struck (suc k) role (x ∷ (xs ++ t ∷ []))) (begin_struck (suc k) role (x ∷ xs)) (all_struck role (x ∷ (xs ++ t ∷ []))) refl (some_struck (suc k) role (xs ++ t ∷ [])) (some_struck (suc k) role xs) (in_a_row role (xs ++ t ∷ []))
      (begin_struck-push (suc k) (x ∷ xs) t) (some_struck-push (suc k) xs t le) (row (is_struck role x))
    where
      row : (b : Bool) → (if b then all_struck role (xs ++ t ∷ []) else false) ≡ true → in_a_row role (xs ++ t ∷ []) ≡ length xs + 1
      row true all = in_a_row-all (xs ++ t ∷ []) all ∙ length-append xs (t ∷ [])
      row false all = absurd cc

      numbers : (e : Bool) → eqb (suc k) (suc (length xs) + 1) ≡ e → (if e then true else nat_le (suc k) (length xs + 1)) ≡ nat_le (suc k) (suc (length xs + 1))
      numbers true is = grind (arith, nat_tests)
      numbers false is = grind (arith, nat_tests)

      last : (b e o l r : Bool) → b ≡ e → o ≡ l → (if e then true else l) ≡ r → (if b then true else o) ≡ r
      last b e o l r be ol er = ap (λ x. if x then true else o) be ∙ (ap (λ x. if e then true else x) ol ∙ er)

      either : (c : Bool) → (if c then true else true) ≡ true
      either true = refl
      either false = refl

      step : (b' b a : Bool) → all_struck role (x ∷ (xs ++ t ∷ [])) ≡ a → (s' s : Bool) (r : ℕ) → b' ≡ (b || (eqb (suc k) (suc (length xs) + 1) && a)) → s' ≡ (s || nat_le (suc k) r)
          → (all_struck role (x ∷ (xs ++ t ∷ [])) ≡ true → r ≡ length xs + 1)
          → (if b' then true else s') ≡ ((if b then true else s) || nat_le (suc k) (if a then suc (length (xs ++ t ∷ [])) else r))
      step b' true a is s' s r begins later whole = ap (λ y. if y then true else s') begins
      step b' false false is s' s r begins later whole = ap (λ y. if y then true else s') (begins ∙ and_false (eqb (suc k) (suc (length xs) + 1))) ∙ later
      step b' false true is s' true r begins later whole = ap (λ y. if b' then true else y) later ∙ either b'
      step b' false true is s' false r begins later whole =
          let wide : suc (length (xs ++ t ∷ [])) ≡ suc (length xs + 1) = ap suc (length-append xs (t ∷ [])) in
          last b' (eqb (suc k) (suc (length xs) + 1)) s' (nat_le (suc k) (length xs + 1)) (nat_le (suc k) (suc (length (xs ++ t ∷ [])))) (begins ∙ and_true (eqb (suc k) (suc (length xs) + 1)))
          (later ∙ ap (nat_le (suc k)) (whole is)) (numbers (eqb (suc k) (suc (length xs) + 1)) refl ∙ ap (nat_le (suc k)) (sym wide))

  retired_by-push : (k : ℕ) (ts : List (Turn M)) (t : Turn M) → retired_by k (ts ++ t ∷ []) role ≡ (if retired_by k ts role then true else is_enough k (in_a_row role (ts ++ t ∷ [])))
  unfolding retired_by
  retired_by-push zero ts t = refl
  retired_by-push (suc k) ts t = rw (not_zero k) (some_struck-push (suc k) ts t (omega arith) ∙ step (some_struck (suc k) role ts) (nat_le (suc k) (in_a_row role (ts ++ t ∷ []))))
    where
      step : (a b : Bool) → (a || b) ≡ (if a then true else b)
      step true b = refl
      step false b = refl

  pub role_strikes-push : (k : ℕ) (ts : List (Turn M)) (t : Turn M) → role_strikes k (ts ++ t ∷ []) role ≡ after_turn k (role_strikes k ts role) (is_struck role t)
  role_strikes-push k ts t =
      step (is_struck role t) (in_a_row role (ts ++ t ∷ [])) (retired_by k (ts ++ t ∷ []) role) (retired_by k ts role) (in_a_row-push ts t) (retired_by-push k ts t)
    where
      same : (b : Bool) → (if b then true else false) ≡ b
      same true = refl
      same false = refl

      both : (n m : ℕ) (b c : Bool) → n ≡ m → b ≡ c → ◌≡◌ {A = RoleStrikes} (record { in_a_row = n; is_retired = b }) (record { in_a_row = m; is_retired = c })
      both n m b c e f = cc

      step : (s : Bool) (row : ℕ) (now before : Bool) → row ≡ (if s then in_a_row role ts + 1 else 0) → now ≡ (if before then true else is_enough k row)
          → ◌≡◌ {A = RoleStrikes} (record { in_a_row = row; is_retired = now }) (after_turn k (record { in_a_row = in_a_row role ts; is_retired = before }) s)
      step true row now before e f = both row (in_a_row role ts + 1) now (if before then true else is_enough k (in_a_row role ts + 1)) e (f ∙ ap (λ n. if before then true else is_enough k n) e)
      step false row now before e f = both row 0 now before e (f ∙ (ap (λ n. if before then true else is_enough k n) e ∙ (ap (λ c. if before then true else c) (enough-none k) ∙ same before)))

-- before the first turn
get-replicate : {A : Type 0} (n : ℕ) (x d : A) (r : ℕ) → r < n → slice_index_or (replicate n x) r d ≡ x
get-replicate zero x d r lt = absurd (omega arith)
get-replicate (suc n) x d zero lt = refl
get-replicate (suc n) x d (suc r) lt = get-replicate n x d r (omega arith)

pub strikes-none : {M : Type 0} (roles k : ℕ) → AreStrikes {M = M} roles k [] (replicate roles unstruck)
strikes-none {M} roles k = record {
  one_each = length-replicate roles unstruck;
  each = λ r d lt.
      let none : false ≡ retired_by {M = M} k [] r = sym (retired_by-none M k r) in
      let f : Bool → RoleStrikes = λ b. record { in_a_row = 0; is_retired = b } in
      get-replicate roles unstruck d r lt ∙ ap f none;
}

pub strikes-push : {M : Type 0} (roles k : ℕ) (ts : List (Turn M)) (t : Turn M) (kept after : List RoleStrikes) → AreStrikes roles k ts kept → length after ≡ length kept
    → ((r : ℕ) (d : RoleStrikes) → r < length kept → slice_index_or after r d ≡ after_turn k (slice_index_or kept r unstruck) (is_error (slice_index_or t.errors r []))) → AreStrikes roles k (ts ++ t ∷ []) after
strikes-push roles k ts t kept after are wide each = record {
  one_each = wide ∙ are.one_each;
  each = λ r d lt. each r d (omega (arith, are.one_each)) ∙ (ap (λ old. after_turn k old (is_struck r t)) (are.each r unstruck lt) ∙ sym (role_strikes-push r k ts t));
}

-- the same for the values in memory
pub strikes-pushed : {M : Type 0} (roles k : ℕ) (ts : List (Turn M)) (t : Turn M) (kept after kept' : List RoleStrikes) (errors : List (List ℕ)) → AreStrikes roles k ts kept → kept' ≡ kept → errors ≡ t.errors → length after ≡ length kept'
    → ((r : ℕ) (d : RoleStrikes) → r < length kept' → slice_index_or after r d ≡ after_turn k (slice_index_or kept' r unstruck) (is_error (slice_index_or errors r []))) → AreStrikes roles k (ts ++ t ∷ []) after
strikes-pushed roles k ts t kept after kept' errors are same same_errors wide each =
    strikes-push roles k ts t kept after are (wide ∙ ap length same)
    (λ r d lt.
    let lt' : r < length kept' = omega (arith, ap length same) in
    each r d lt'
    ∙ (ap (λ (l : List RoleStrikes). after_turn k (slice_index_or l r unstruck) (is_error (slice_index_or errors r []))) same
    ∙ ap (λ (l : List (List ℕ)). after_turn k (slice_index_or kept r unstruck) (is_error (slice_index_or l r []))) same_errors))

pub strikes-few : {M : Type 0} (roles k : ℕ) (ts : List (Turn M)) (kept : List RoleStrikes) → AreStrikes roles k ts kept → length ts ≤ max_turns → All (λ s. s.in_a_row ≤ max_turns) kept
strikes-few roles k ts kept are few r d lt =
    let is : slice_index_or kept r d ≡ role_strikes k ts r = are.each r d (omega (arith, are.one_each)) in
    let row : (slice_index_or kept r d).in_a_row ≡ in_a_row r ts = ap (λ (x : RoleStrikes). x.in_a_row) is in
    let le = in_a_row-le r ts in
    omega (arith, row)

pub strikes-retired : {M : Type 0} (roles k : ℕ) (ts : List (Turn M)) (kept : List RoleStrikes) → AreStrikes roles k ts kept → (r : ℕ) (d : RoleStrikes) → r < roles → (slice_index_or kept r d).is_retired ≡ retired_by k ts r
strikes-retired roles k ts kept are r d lt = ap (λ (x : RoleStrikes). x.is_retired) (are.each r d lt)

pub strikes-count : {M : Type 0} (roles k : ℕ) (ts : List (Turn M)) (kept : List RoleStrikes) → AreStrikes roles k ts kept → count_roles (length kept) (is_retired_in kept) ≡ count_roles roles (retired_by k ts)
strikes-count roles k ts kept are = ap (λ n. count_roles n (is_retired_in kept)) are.one_each ∙ count_roles-same roles (retired_by k ts) (is_retired_in kept) (λ r lt. strikes-retired roles k ts kept are r unstruck lt)

pub all_retired-count : {M : Type 0} (roles k : ℕ) (ts : List (Turn M)) (count : ℕ) → count ≡ count_roles roles (retired_by k ts) → every_role roles (retired_by k ts) ≡ (count == roles)
all_retired-count roles k ts count is = every_role-count roles (retired_by k ts) ∙ ap (λ n. n == roles) (sym is)

pub all_retired-never : {M : Type 0} (roles : ℕ) (ts : List (Turn M)) → 1 ≤ roles → every_role roles (retired_by 0 ts) ≡ false
all_retired-never roles ts some = every_role-but roles 0 (retired_by 0 ts) (omega arith) (retired_by-never ts 0)
