-- The lists of a record, member by member, and the depth of its tree.
use Rattle.std.proofs.Common.{◌≡◌, ℕ, ◌+◌, ◌<◌, ◌≤◌, Option, Some, None, List, [], ◌∷◌, ◌++◌, length, take, map, refl, sym, ap, ◌∙◌, subst, arith, add-one}
use Rattle.std.specs.Prelude.{slice_get, slice_index_or, option_map, option_to_list}
use Rattle.std.proofs.lemmas.List.{map-append, take_more}
use Rattle.std.proofs.lemmas.Option.{slice_get-get_or, get_or_from_slice_get, slice_get_within}
use Rattle.serde_json.specs.Data.{string, depth, items_depth, members_depth}
use Rattle.serde_json.specs.View.{items_of}
use Rattle.serde_json.specs.Read.{max_depth}
use Rattle.game_core.specs.Play.{Rules}
use Rattle.match_book.specs.Marks.{mark_text}
use Rattle.match_book.specs.MatchValue.{MatchValue}
use Rattle.match_book.specs.Lawful.{AreLawful}
use Rattle.match_book.specs.declared.answer.Mark.{Mark}
use Rattle.match_book.specs.declared.turn.Turn.{Turn}
use Rattle.record_reading.specs.RecordParts.{each_role, goals_from, parts_of, prefixes}
use Rattle.record_reading.specs.RecordTree.{texts_tree, text_or_null, cause_text, mark_tree, whole_tree, key_tree, keys, members_at, record_tree}
use Rattle.record_reading.specs.declared.record_parts.Key.{Key}
use Rattle.record_reading.specs.declared.record_parts.Key.TheVariants.{Cause as AtCause, EndMarks, Errors, GoalValues, MatchId, Moves, Phase as AtPhase, PlayClock, Players, Roles, StartClock, StartMarks, States, Strikes, Version as AtVersion}
use Rattle.record_reading.specs.declared.record_parts.RecordParts.{RecordParts}

pub each_role-more : {A : Type 0} (n : ℕ) (f : ℕ → A) → each_role (n + 1) f ≡ each_role n f ++ f n ∷ []
each_role-more n f = rw add-one refl

pub goals_from-more : (n : ℕ) (goal : ℕ → Option ℕ) → goals_from (n + 1) goal ≡ goals_from n goal ++ option_to_list (goal n)
goals_from-more n goal = rw add-one refl

pub goals-next : (n : ℕ) (goal : ℕ → Option ℕ) → map whole_tree (goals_from (n + 1) goal) ≡ map whole_tree (goals_from n goal) ++ map whole_tree (option_to_list (goal n))
goals-next n goal = ap (map whole_tree) (goals_from-more n goal) ∙ map-append whole_tree (goals_from n goal) (option_to_list (goal n))

pub take-next : {A : Type 0} (xs : List A) (i : ℕ) (x : A) → slice_get xs i ≡ Some x → take (i + 1) xs ≡ take i xs ++ x ∷ []
take-next xs i x at = take_more xs i x (slice_get_within xs i x at) ∙ ap (λ y. take i xs ++ y ∷ []) (get_or_from_slice_get xs i x x at)

-- The first r members of a turn's list, each converted by f, or None if there is no turn.
abbrev pub part_of : {T A B : Type 0} → (T → List A) → (A → B) → ℕ → Option T → Option (List B)
part_of part f r o = option_map (λ t. map f (take r (part t))) o

pub turn-widths : {S M : Type 0} (g : Rules S M) {strikes : ℕ} (turns : List (Turn M)) (k : ℕ) (t : Turn M) → AreLawful g strikes turns → slice_get turns k ≡ Some t → (length t.moves ≡ g.roles) × (length t.errors ≡ g.roles)
turn-widths {S} {M} g {strikes} turns k t lawful at =
    let turn = lawful k t (slice_get_within turns k t at) in
    subst (λ (u : Turn M). (length u.moves ≡ g.roles) × (length u.errors ≡ g.roles)) (get_or_from_slice_get turns k t t at) (turn.joint.width, turn.one_error)

pub map_twice : {A B C : Type 0} (f : B → C) (h : A → B) (xs : List A) → map (λ x. f (h x)) xs ≡ map f (map h xs)
map_twice f h [] = refl
map_twice f h (x ∷ xs) = ap (λ ys. f (h x) ∷ ys) (map_twice f h xs)

prefixes-cons : {A : Type 0} (x y : A) (xs : List A) → map (λ front. x ∷ front) (prefixes xs ++ (xs ++ y ∷ []) ∷ []) ≡ map (λ front. x ∷ front) (prefixes xs) ++ (x ∷ (xs ++ y ∷ [])) ∷ []
prefixes-cons x y xs = map-append (λ front. x ∷ front) (prefixes xs) ((xs ++ y ∷ []) ∷ [])

pub prefixes-push : {A : Type 0} (xs : List A) (y : A) → prefixes (xs ++ y ∷ []) ≡ prefixes xs ++ (xs ++ y ∷ []) ∷ []
prefixes-push [] y = refl
prefixes-push (x ∷ xs) y = ap (λ ps. [] ∷ map (λ front. x ∷ front) ps) (prefixes-push xs y) ∙ ap (λ ps. [] ∷ ps) (prefixes-cons x y xs)

pub prefixes-next : {A : Type 0} (xs : List A) (k : ℕ) → k < length xs → prefixes (take (k + 1) xs) ≡ prefixes (take k xs) ++ take (k + 1) xs ∷ []
prefixes-next [] k lt = absurd (omega arith)
prefixes-next (x ∷ xs) k lt =
    let more = take-next (x ∷ xs) k (slice_index_or (x ∷ xs) k x) (slice_get-get_or (x ∷ xs) k x lt) in
    ap prefixes more ∙ prefixes-push (take k (x ∷ xs)) (slice_index_or (x ∷ xs) k x) ∙ ap (λ ts. prefixes (take k (x ∷ xs)) ++ ts ∷ []) (sym more)

texts_are_flat : (ts : List (List ℕ)) → items_depth (items_of (map string ts)) ≤ 0
texts_are_flat [] = omega arith
texts_are_flat (t ∷ ts) = omega (arith, texts_are_flat ts)

text_or_null_is_flat : (o : Option (List ℕ)) → depth (text_or_null o) ≤ 0
text_or_null_is_flat None = omega arith
text_or_null_is_flat (Some t) = omega arith

marks_are_flat : (marks : List (Option Mark)) → items_depth (items_of (map mark_tree marks)) ≤ 0
marks_are_flat [] = omega arith
marks_are_flat (m ∷ ms) = omega (arith, text_or_null_is_flat (option_map mark_text m), marks_are_flat ms)

goals_are_flat : (goals : List ℕ) → items_depth (items_of (map whole_tree goals)) ≤ 0
goals_are_flat [] = omega arith
goals_are_flat (n ∷ ns) = omega (arith, goals_are_flat ns)

lists_are_shallow : (lists : List (List (List ℕ))) → items_depth (items_of (map texts_tree lists)) ≤ 1
lists_are_shallow [] = omega arith
lists_are_shallow (texts ∷ more) = omega (arith, texts_are_flat texts, lists_are_shallow more)

key_is_shallow : (key : Key) (p : RecordParts) → depth (key_tree key p) ≤ 2
key_is_shallow AtCause p = omega (arith, text_or_null_is_flat (option_map cause_text p.cause))
key_is_shallow EndMarks p = omega (arith, marks_are_flat p.end_marks)
key_is_shallow Errors p = omega (arith, lists_are_shallow p.errors)
key_is_shallow GoalValues p = omega (arith, goals_are_flat p.goals)
key_is_shallow MatchId p = omega arith
key_is_shallow Moves p = omega (arith, lists_are_shallow p.moves)
key_is_shallow AtPhase p = omega arith
key_is_shallow PlayClock p = omega arith
key_is_shallow Players p = omega (arith, texts_are_flat p.players)
key_is_shallow Roles p = omega (arith, texts_are_flat p.roles)
key_is_shallow StartClock p = omega arith
key_is_shallow StartMarks p = omega (arith, marks_are_flat p.start_marks)
key_is_shallow States p = omega (arith, lists_are_shallow p.states)
key_is_shallow Strikes p = omega arith
key_is_shallow AtVersion p = omega arith

members_are_shallow : (ks : List Key) (p : RecordParts) → members_depth (members_at ks p) ≤ 2
members_are_shallow [] p = omega arith
members_are_shallow (key ∷ more) p = omega (arith, key_is_shallow key p, members_are_shallow more p)

pub record_is_shallow : {S M : Type 0} (g : Rules S M) (m : MatchValue M) → depth (record_tree g m) ≤ max_depth
unfolding record_tree
record_is_shallow g m = omega (arith, members_are_shallow keys (parts_of g m))
