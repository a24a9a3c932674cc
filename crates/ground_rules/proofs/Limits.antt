-- Tests of a description's size.
use Rattle.std.proofs.Common.{◌≡◌, ℕ, ◌<◌, ◌≤◌, true, false, ◌&&◌, nat_le, List, [], ◌∷◌, length, map, refl, sym, ap, ◌∙◌, arith}
use Rattle.std.proofs.lemmas.Bool.Decides.{nat_tests}
use Rattle.game_core.specs.Limits.{max_sentences, max_atomic_sentences}
use Rattle.game_core.specs.declared.limits.Limits.{Limits}
use Rattle.game_core.specs.Play.{max_roles}
use Rattle.rule_sentences.specs.declared.sentence.Derived.{Derived}
use Rattle.ground_rules.specs.Lawfulness.Bools.{and-both, and-right}
use Rattle.rule_sentences.specs.Descriptions.{Description, each_once, role_names, heads, moves_in}
use Rattle.rule_sentences.specs.Sizes.{max_moves, same_atomic, atomics, have_few_moves, is_small}
use Rattle.ground_rules.specs.Internal.GameParts.{is_small_so_far, have_few_moves_by}
use Rattle.ground_rules.specs.Internal.Resolved.{NameTable, role_table, with_mention, mentions_by}
use Rattle.ground_rules.specs.declared.tables.Mention.{Mention}
use Rattle.ground_rules.proofs.Mentions.{texts_by, with_text, legal_pick, legal-mentions, moves-texts}
use Rattle.std.proofs.Common.{Option, Some, None, ◌+◌, suc}
use Rattle.std.proofs.lemmas.Bool.{and_left, and_right}

more : (m n : ℕ) → n < m → nat_le m n ≡ false
more m n lt = grind (arith, nat_tests)

most : (m n : ℕ) → m ≤ n → nat_le m n ≡ true
most m n le = grind (arith, nat_tests)

pub too-many-sentences : (limits : Limits) (n : ℕ) (d : Description) → (max_sentences limits) < n → is_small limits n d ≡ false
too-many-sentences limits n d lt = and_left _ _ (and_left _ _ (and_left (nat_le n (max_sentences limits)) _ (more n (max_sentences limits) lt)))

pub too-many-atomics : (limits : Limits) (n : ℕ) (d : Description) → nat_le (length (each_once same_atomic (atomics d))) (max_atomic_sentences limits) ≡ false → is_small limits n d ≡ false
too-many-atomics limits n d many = and_left _ _ (and_left _ _ (and_right (nat_le n (max_sentences limits)) _ many))

pub too-many-roles : (limits : Limits) (n k : ℕ) (d : Description) → k ≡ length (role_names d) → max_roles < k → is_small limits n d ≡ false
too-many-roles limits n k d e lt = and_left _ _ (and_right (nat_le n (max_sentences limits) && nat_le (length (each_once same_atomic (atomics d))) (max_atomic_sentences limits)) _ (more (length (role_names d)) max_roles (omega (arith, e, lt))))

pub few-so-far : (limits : Limits) (n m : ℕ) (d : Description) → n ≤ (max_sentences limits) → nat_le (length (each_once same_atomic (atomics d))) (max_atomic_sentences limits) ≡ true → m ≡ length (role_names d) → m ≤ max_roles → is_small_so_far limits n d ≡ true
few-so-far limits n m d le few f le' = and-both _ _ (and-both _ _ (most n (max_sentences limits) le) few) (most _ max_roles (omega (arith, f, le')))

at-most : (m n : ℕ) → nat_le m n ≡ true → m ≤ n
at-most m n h = grind (arith, nat_tests)

pub few-roles-so-far : (limits : Limits) (n : ℕ) (d : Description) → is_small_so_far limits n d ≡ true → length (role_names d) ≤ max_roles
few-roles-so-far limits n d so_far = at-most (length (role_names d)) max_roles (and-right (nat_le n (max_sentences limits) && nat_le (length (each_once same_atomic (atomics d))) (max_atomic_sentences limits)) _ so_far)

one-more : (terms : List (List ℕ)) (n : ℕ) (o : Option (List ℕ)) (ms : List Mention) (ts : List (List ℕ)) → length ms ≡ length ts → length (with_mention terms n o ms) ≡ length (with_text o ts)
one-more terms n (Some t) ms ts e = ap suc e
one-more terms n None ms ts e = e

mentions-length : (pick : Derived → Option (List ℕ)) (terms : List (List ℕ)) (n : ℕ) (hs : List Derived) → length (mentions_by pick terms n hs) ≡ length (texts_by pick hs)
mentions-length pick terms n [] = refl
mentions-length pick terms n (a ∷ as') = one-more terms n (pick a) (mentions_by pick terms (n + 1) as') (texts_by pick as') (mentions-length pick terms (n + 1) as')

few-moves : (t : NameTable) (d : Description) (ns : List (List ℕ)) → t.heads ≡ heads d → have_few_moves_by (map (role_table t) ns) ≡ have_few_moves ns d
few-moves t d [] same = refl
few-moves t d (n ∷ ns) same =
    let size : length (role_table t n).legal ≡ length (moves_in n (heads d)) =
    ap length (legal-mentions t.moves n 0 t.heads) ∙ mentions-length (legal_pick n) t.moves 0 t.heads ∙ ap length (sym (moves-texts n t.heads)) ∙ ap (λ hs. length (moves_in n hs)) same in
    let first = ap (λ k. nat_le k max_moves) size in
    let rest = few-moves t d ns same in
    cc

pub small-by-moves : (limits : Limits) (n : ℕ) (t : NameTable) (d : Description) → t.heads ≡ heads d → t.roles ≡ role_names d → is_small_so_far limits n d ≡ true → is_small limits n d ≡ have_few_moves_by (map (role_table t) t.roles)
small-by-moves limits n t d same roles so_far =
    let e : have_few_moves_by (map (role_table t) t.roles) ≡ have_few_moves (role_names d) d = few-moves t d t.roles same ∙ ap (λ ns. have_few_moves ns d) roles in
    ap (λ b. b && have_few_moves (role_names d) d) so_far ∙ sym e
