-- How open answers become a turn.
use Rattle.std.proofs.Common.{◌≡◌, ℕ, zero, suc, ◌<◌, Bool, true, false, Option, Some, None, List, [], ◌∷◌, ◌++◌, length, slice_index_or, refl, arith, ap, ◌∙◌}
use Rattle.std.proofs.lemmas.List.{map-append, get_or_default}
use Rattle.std.specs.Prelude.{is_some, map, option_to_list, slice_get, if◌then◌else◌}
use Rattle.match_book.specs.declared.judgement.Judgement.{Judgement}
use Rattle.match_book.specs.Judgement.{substitute}
use Rattle.match_book.specs.RoleStrikes.{is_retired_in}
use Rattle.match_book.specs.Internal.OpenAnswers.{kept_part}
use Rattle.match_book.specs.declared.judgement.Substitution.TheVariants.{Retired}
use Rattle.match_book.specs.declared.retirement.RoleStrikes.{RoleStrikes}
use Rattle.match_book.specs.Roles.{at_role, is_there, present}

pub present-append : {A : Type 0} (xs ys : List (Option A)) → present (xs ++ ys) ≡ present xs ++ present ys
present-append [] ys = refl
present-append (None ∷ xs) ys = present-append xs ys
present-append (Some x ∷ xs) ys = ap (λ l. x ∷ l) (present-append xs ys)

present-one : {A : Type 0} (o : Option A) → present (o ∷ []) ≡ option_to_list o
present-one None = refl
present-one (Some x) = refl

pub map_present-push : {A B : Type 0} (f : A → B) (xs : List (Option A)) (x : Option A) → map f (present (xs ++ x ∷ [])) ≡ map f (present xs) ++ map f (option_to_list x)
map_present-push f xs x = ap (map f) (present-append xs (x ∷ []) ∙ ap (λ l. present xs ++ l) (present-one x)) ∙ map-append f (present xs) (option_to_list x)

pub length-present : {A : Type 0} (xs : List (Option A)) → ((k : ℕ) → k < length xs → is_there xs k ≡ true) → length (present xs) ≡ length xs
length-present [] all = refl
length-present (None ∷ xs) all = let w : false ≡ true = all 0 (omega arith) in absurd cc
length-present (Some x ∷ xs) all = ap suc (length-present xs (λ k lt. all (suc k) (omega arith)))

pub present-at : {A B : Type 0} (f : A → B) (xs : List (Option A)) (q : ℕ) (d : B) (x : A) → ((k : ℕ) → k < length xs → is_there xs k ≡ true) → q < length xs → at_role xs q ≡ Some x → slice_index_or (map f (present xs)) q d ≡ f x
present-at f [] q d x all lt is = absurd (omega arith)
present-at f (None ∷ xs) q d x all lt is = let w : false ≡ true = all 0 (omega arith) in absurd cc
present-at f (Some y ∷ xs) zero d x all lt is = let w : y ≡ x = cc in ap f w
present-at f (Some y ∷ xs) (suc q) d x all lt is = present-at f xs q d x (λ k less. all (suc k) (omega arith)) (omega arith) is

-- the value at a role's index in the turn
pub present-get : {A B : Type 0} (f : A → B) (xs : List (Option A)) (q : ℕ) (x : A) → ((k : ℕ) → k < length xs → is_there xs k ≡ true) → q < length xs → at_role xs q ≡ Some x → slice_get (map f (present xs)) q ≡ Some (f x)
present-get f [] q x all lt is = absurd (omega arith)
present-get f (None ∷ xs) q x all lt is = let w : false ≡ true = all 0 (omega arith) in absurd cc
present-get f (Some y ∷ xs) zero x all lt is = let w : y ≡ x = cc in ap (λ z. Some (f z)) w
present-get f (Some y ∷ xs) (suc q) x all lt is = present-get f xs q x (λ k less. all (suc k) (omega arith)) (omega arith) is

pub some_of : {A : Type 0} (o : Option A) → is_some o ≡ true → (x : A) × (o ≡ Some x)
some_of None e = absurd cc
some_of (Some x) e = (x, refl)

pub at_role-read : {A : Type 0} (xs : List (Option A)) (k : ℕ) (d : Option A) → k < length xs → slice_index_or xs k d ≡ at_role xs k
at_role-read [] k d lt = absurd (omega arith)
at_role-read (x ∷ xs) zero d lt = refl
at_role-read (x ∷ xs) (suc k) d lt = at_role-read xs k d (omega arith)

pub kept_part-is : {M : Type 0} (answers : List (Option (Judgement M))) (strikes : List RoleStrikes) (legal : List (List M)) (r : ℕ) (answer : Option (Judgement M)) (retired : Bool) (moves : List M)
    → r < length legal → r < length answers → answer ≡ slice_index_or answers r answer → retired ≡ is_retired_in strikes r → moves ≡ slice_index_or legal r moves
    → (if retired then substitute moves Retired else answer) ≡ kept_part answers strikes legal r
kept_part-is {M} answers strikes legal r answer retired moves in_legal in_answers read_answer known read_moves =
    let a : answer ≡ at_role answers r = read_answer ∙ at_role-read answers r answer in_answers in
    let l : moves ≡ slice_index_or legal r [] = read_moves ∙ get_or_default legal r moves [] in_legal in
    ap (λ (b : Bool). if b then substitute moves Retired else answer) known
    ∙ (ap (λ (x : List M). if is_retired_in strikes r then substitute x Retired else answer) l ∙ ap (λ (x : Option (Judgement M)). if is_retired_in strikes r then substitute (slice_index_or legal r []) Retired else x) a)
