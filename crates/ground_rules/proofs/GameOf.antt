-- The loaded game is the description's game.
use Rattle.std.proofs.Common.{◌≡◌, ℕ, zero, suc, ◌+◌, ◌<◌, ◌≤◌, Bool, true, false, ◌||◌, if◌then◌else◌, bytes_eq, List, [], ◌∷◌, ◌++◌, length, get_or, take, map, filter, set, Option, Some, None, refl, sym, ap, ◌∙◌, arith, length-set, subst}
use Rattle.std.specs.Prelude.{slice_get}
use Rattle.std.specs.List.{list_any}
use Rattle.std.specs.List.Sorted.{IsPermutation}
use Rattle.std.proofs.lemmas.List.{length-replicate, length-map, take_all}
use Rattle.game_core.specs.Play.{IsJoint, IsLawful}
use Rattle.rule_sentences.specs.declared.sentence.Derived.{Derived}
use Rattle.rule_sentences.specs.declared.sentence.Derived.TheVariants.{Role, Init, Next, Legal, Goal, Terminal, Other}
use Rattle.ground_rules.specs.declared.names.TermKind.{TermKind}
use Rattle.ground_rules.specs.declared.names.TermKind.TheVariants.{State, Move}
use Rattle.ground_rules.specs.declared.state.GroundMove.{GroundMove}
use Rattle.ground_rules.specs.declared.tables.Mention.{Mention}
use Rattle.ground_rules.specs.declared.tables.GoalHead.{GoalHead}
use Rattle.ground_rules.specs.declared.tables.StateHead.TheVariants.{Init as InitHead, Next as NextHead}
use Rattle.ground_rules.specs.Lawfulness.Bools.{and-right, and-both, or-left, or-right, bool-same}
use Rattle.ground_rules.specs.Lawfulness.Names.{text-sound, text-same, derived-sound}
use Rattle.numbered_rules.specs.Literals.{Rule}
use Rattle.numbered_rules.specs.Fit.{Situation, all_true, Fits}
use Rattle.ground_rules.specs.Acyclic.{IsAcyclic}
use Rattle.rule_sentences.specs.Descriptions.{Description, same_derived, is_among, role_names, heads, with_new, with_all_new, moves_in, are_different}
use Rattle.ground_rules.specs.Described.{situation, makes, names_of, at_rest, at_turn, IsGameOf, IsGoalAnswer}
use Rattle.ground_rules.specs.Roles.{RoleTable, no_role}
use Rattle.numbered_rules.specs.Numbered.{bit, numbered, row_after, unset, is_number}
use Rattle.ground_rules.specs.Internal.Ranked.{AreRankedFrom}
use Rattle.ground_rules.specs.Lookups.{marked, chosen, only, only_goal, picked}
use Rattle.ground_rules.specs.Lawfulness.TableTests.{are_in_order, names}
use Rattle.ground_rules.specs.States.{StateRows}
use Rattle.ground_rules.specs.LoadedGame.{GameTables, loaded_game, kept_row, turn_row, settled, role_at, terms_of, IsSettled}
use Rattle.ground_rules.specs.Lawfulness.LoadedGameLaws.{ordered-different, marked-size}
use Rattle.ground_rules.specs.Internal.Resolved.{NameTable, atom_number, state_number, move_number, role_number, resolved_rules, terms_in, head_terms, role_table, mentions_by, state_term, state_mentions, legal_mentions, goal_heads, place}
use Rattle.ground_rules.proofs.NameLists.{among-any, among-left, among-right}
use Rattle.ground_rules.proofs.Pass.{bit-unset}
use Rattle.ground_rules.proofs.TablePlaces.{place-within}
use Rattle.ground_rules.proofs.Transfer.{Agrees, fit-is-row}
use Rattle.ground_rules.proofs.HeadTables.{heads-there, heads-once}
use Rattle.ground_rules.proofs.Situations.{picked-bit, makes-bit, text_of}
use Rattle.ground_rules.proofs.Mentions.{IsByRow, StandFrom, IsPick, AreIn, texts_by, with_text, hits-by, marked-bit, chosen-texts, legal_pick, init-picks, next-picks, legal-picks, legal-mentions, moves-texts}
use Rattle.ground_rules.proofs.Goals.{goal-answer}
use Rattle.ground_rules.specs.Internal.SplitRules.{SpeakOfNoMoves, IsNoHead, IsAnswer}
use Rattle.ground_rules.proofs.TwoPasses.{pass-append, still-pass, kept-bit}

abbrev pub all_rules : GameTables → List (Rule ℕ ℕ)
all_rules g = g.rest ++ g.turn

-- the truth of the derived atoms, from one pass over all rules
abbrev pub row_of : GameTables → List Bool → List ℕ → List Bool
row_of g state joint = row_after (numbered state joint) (unset g.atoms) (all_rules g)

-- the tables are those of the description
pub record IsBuilt (d : Description) (table : NameTable) (rank : ℕ → ℕ) (g : GameTables) : Type 0 where
  pub heads' : table.heads ≡ heads d
  pub roles : table.roles ≡ role_names d
  pub states : g.states ≡ table.states
  pub moves : g.moves ≡ table.moves
  pub role_tables : g.roles ≡ map (role_table table) table.roles
  pub init : g.init ≡ state_mentions InitHead table.states 0 table.heads
  pub next : g.next ≡ state_mentions NextHead table.states 0 table.heads
  pub terminal : g.terminal ≡ atom_number table Terminal
  pub atoms : g.atoms ≡ length table.heads
  pub moved : IsPermutation (resolved_rules table d) (all_rules g)
  pub ranked : AreRankedFrom rank 0 (length table.heads) (all_rules g)
  pub no_moves : SpeakOfNoMoves g.rest
  pub answers : (a : Derived) → IsAnswer a → IsNoHead (atom_number table a) g.turn
  pub differ : are_different table.roles ≡ true
  pub states_ordered : are_in_order table.states ≡ true
  pub moves_ordered : are_in_order table.moves ≡ true
  pub has_states : (t : List ℕ) → is_among (head_terms State d) t ≡ true → is_among table.states t ≡ true
  pub has_moves : (t : List ℕ) → is_among (head_terms Move d) t ≡ true → is_among table.moves t ≡ true
  pub acyclic : IsAcyclic d

-- the place of each head is its number
stand-from : (table : NameTable) (n : ℕ) (hs : List Derived) → ((k : ℕ) (d : Derived) → k < length hs → atom_number table (get_or hs k d) ≡ n + k) → StandFrom table n hs
stand-from table n [] at = tt
stand-from table n (a ∷ as') at = (at 0 a (omega arith) ∙ omega arith, stand-from table (n + 1) as' (λ k d lt. let e = at (suc k) d (omega (arith, lt)) in omega (arith, e)))

pub heads-stand : (table : NameTable) (d : Description) → table.heads ≡ heads d → StandFrom table 0 table.heads
heads-stand table d e =
    stand-from table 0 table.heads (λ k x lt.
    let once = heads-once d k x (omega (arith, ap length e, lt)) in
    let f : atom_number table (get_or table.heads k x) ≡ place same_derived (heads d) (get_or (heads d) k x) = ap (λ hs. place same_derived hs (get_or hs k x)) e in
    omega (arith, once, f))

abbrev pub EachIs : (Derived → Type 0) → List Derived → Type 0
EachIs P [] = Unit {0}
EachIs P (a ∷ as') = P a × EachIs P as'

each-push : (P : Derived → Type 0) (seen : List Derived) (a : Derived) (b : Bool) → EachIs P seen → P a → EachIs P (if b then seen else seen ++ a ∷ [])
each-push P seen a true h p = h
each-push P [] a false h p = (p, tt)
each-push P (x ∷ xs) a false h p = (h.0, each-push P xs a false h.1 p)

pub each-new : (P : Derived → Type 0) (seen xs : List Derived) → EachIs P seen → EachIs P xs → EachIs P (with_all_new same_derived seen xs)
each-new P seen [] h k = h
each-new P seen (a ∷ as') h k = each-new P (with_new same_derived seen a) as' (each-push P seen a (list_any (same_derived a) seen) h k.0) k.1

rules-heads : (kind : TermKind) (P : Derived → Type 0) (d : Description) → ((a : Derived) → ((t : List ℕ) → is_among (terms_in kind a) t ≡ true → is_among (head_terms kind d) t ≡ true) → P a) → EachIs P (map (λ r. r.head) d)
rules-heads kind P [] f = tt
rules-heads kind P (r ∷ rs) f = (f r.head (λ t h. among-left (terms_in kind r.head) (head_terms kind rs) t h), rules-heads kind P rs (λ a g. f a (λ t h. among-right (terms_in kind r.head) (head_terms kind rs) t (g t h))))

pub each-head : (kind : TermKind) (P : Derived → Type 0) (d : Description) → ((a : Derived) → ((t : List ℕ) → is_among (terms_in kind a) t ≡ true → is_among (head_terms kind d) t ≡ true) → P a) → EachIs P (heads d)
each-head kind P d f = each-new P [] (map (λ r. r.head) d) tt (rules-heads kind P d f)

are-in-by : (pick : Derived → Option (List ℕ)) (terms : List (List ℕ)) (a : Derived) (o : Option (List ℕ)) (ts : List (List ℕ)) → pick a ≡ o → ((t : List ℕ) → pick a ≡ Some t → place bytes_eq terms t < length terms) → AreIn terms ts → AreIn terms (with_text o ts)
are-in-by pick terms a None ts e f h = h
are-in-by pick terms a (Some t) ts e f h = (f t e, h)

are-in : (pick : Derived → Option (List ℕ)) (terms : List (List ℕ)) (hs : List Derived) → EachIs (λ a. (t : List ℕ) → pick a ≡ Some t → place bytes_eq terms t < length terms) hs → AreIn terms (texts_by pick hs)
are-in pick terms [] h = tt
are-in pick terms (a ∷ as') h = are-in-by pick terms a (pick a) (texts_by pick as') refl h.0 (are-in pick terms as' h.1)

pub picked-in : (kind : TermKind) (d : Description) (terms : List (List ℕ)) (pick : Derived → Option (List ℕ)) (make : List ℕ → Derived) → IsPick pick make → ((t : List ℕ) → is_among (terms_in kind (make t)) t ≡ true) → ((t : List ℕ) → is_among (head_terms kind d) t ≡ true → is_among terms t ≡ true) → AreIn terms (texts_by pick (heads d))
picked-in kind d terms pick make is about has =
    are-in pick terms (heads d) (each-head kind (λ a. (t : List ℕ) → pick a ≡ Some t → place bytes_eq terms t < length terms) d (λ a inside t e.
    let here : is_among (terms_in kind a) t ≡ true = ap (λ x. is_among (terms_in kind x) t) (is.made a t e) ∙ about t in
    place-within bytes_eq terms t (sym (among-any terms t) ∙ has t (inside t here))))

pub one-about : (t : List ℕ) → is_among (t ∷ []) t ≡ true
one-about t = or-left _ _ (text-same t t refl)

pub within-any : {A : Type 0} (same : A → A → Bool) (xs : List A) (x : A) → place same xs x < length xs → list_any (same x) xs ≡ true
within-any same [] x lt = absurd (omega (arith, lt))
within-any same (y ∷ ys) x lt = by-head (same x y) (within-any same ys x) lt
  where
    by-head : (b : Bool) → (place same ys x < length ys → list_any (same x) ys ≡ true) → (if b then 0 else suc (place same ys x)) < suc (length ys) → (b || list_any (same x) ys) ≡ true
    by-head true rest lt = refl
    by-head false rest lt = rest (omega (arith, lt))

pub row-length : (u : Situation ℕ ℕ) (row : List Bool) (rs : List (Rule ℕ ℕ)) → length (row_after u row rs) ≡ length row
row-length u row [] = refl
row-length u row (r ∷ rs) = row-length u (if all_true u (bit row) r.body then set row r.head true else row) rs ∙ kept (all_true u (bit row) r.body)
  where
    kept : (b : Bool) → length (if b then set row r.head true else row) ≡ length row
    kept true = length-set row r.head true
    kept false = refl

pub past : (row : List Bool) (k : ℕ) → bit row k ≡ true → k < length row
past [] zero h = absurd cc
past [] (suc k) h = absurd cc
past (b ∷ bs) zero h = omega arith
past (b ∷ bs) (suc k) h = let lt = past bs k h in omega (arith, lt)

true-is-head : (table : NameTable) (v : Derived → Bool) (row : List Bool) → IsByRow table v row → length row ≡ length table.heads → (a : Derived) → v a ≡ true → list_any (same_derived a) table.heads ≡ true
true-is-head table v row by size a h = let lt = past row (atom_number table a) (sym (by a) ∙ h) in within-any same_derived table.heads a (omega (arith, lt, size))

-- the row of a pass over the numbered rules agrees with a fit of the description
pub record IsRead (d : Description) (table : NameTable) (v : Derived → Bool) (row : List Bool) : Type 0 where
  pub by : IsByRow table v row
  pub size : length row ≡ length table.heads

read-row : (d : Description) (table : NameTable) (rank : ℕ → ℕ) (g : GameTables) (w : Situation Derived (List ℕ)) (state : List Bool) (joint : List ℕ) (v : Derived → Bool) → IsBuilt d table rank g → Agrees table w (numbered state joint) → Fits w d v → IsRead d table v (row_of g state joint)
read-row d table rank g w state joint v built agree fits =
    let u = numbered state joint in
    record {
      by = λ a. fit-is-row table d w u rank (length table.heads) (all_rules g) v agree (heads-there table d built.heads') built.acyclic built.moved built.ranked fits a ∙ ap (λ n. bit (row_after u (unset n) (all_rules g)) (atom_number table a)) (sym built.atoms);
      size = row-length u (unset g.atoms) (all_rules g) ∙ length-replicate g.atoms false ∙ built.atoms;
    }

no-joint : (k m : ℕ) → is_number (slice_get {X = ℕ} [] k) m ≡ false
no-joint zero m = refl
no-joint (suc k) m = refl

skip-text : (t : List ℕ) (o : Option (List ℕ)) (ts : List (List ℕ)) → list_any (bytes_eq t) ts ≡ true → list_any (bytes_eq t) (with_text o ts) ≡ true
skip-text t None ts e = e
skip-text t (Some s) ts e = or-right _ _ e

found-by : (pick : Derived → Option (List ℕ)) (make : List ℕ → Derived) → IsPick pick make → (a : Derived) (as' : List Derived) (t : List ℕ) (b : Bool) → same_derived (make t) a ≡ b → (list_any (same_derived (make t)) as' ≡ true → list_any (bytes_eq t) (texts_by pick as') ≡ true) → (b || list_any (same_derived (make t)) as') ≡ true → list_any (bytes_eq t) (with_text (pick a) (texts_by pick as')) ≡ true
found-by pick make is a as' t true is' rest e = rw (ap pick (sym (derived-sound (make t) a is')) ∙ is.picked t) (or-left _ _ (text-same t t refl))
found-by pick make is a as' t false is' rest e = skip-text t (pick a) (texts_by pick as') (rest e)

found-text : (pick : Derived → Option (List ℕ)) (make : List ℕ → Derived) → IsPick pick make → (hs : List Derived) (t : List ℕ) → list_any (same_derived (make t)) hs ≡ true → list_any (bytes_eq t) (texts_by pick hs) ≡ true
found-text pick make is [] t h = absurd cc
found-text pick make is (a ∷ as') t h = found-by pick make is a as' t (same_derived (make t) a) refl (found-text pick make is as' t) h

within-by : (terms : List (List ℕ)) (s t : List ℕ) (ts : List (List ℕ)) (b : Bool) → bytes_eq t s ≡ b → place bytes_eq terms s < length terms → (list_any (bytes_eq t) ts ≡ true → place bytes_eq terms t < length terms) → (b || list_any (bytes_eq t) ts) ≡ true → place bytes_eq terms t < length terms
within-by terms s t ts true is lt rest e = let f = ap (place bytes_eq terms) (text-sound t s is) in omega (arith, f, lt)
within-by terms s t ts false is lt rest e = rest e

text-within : (terms ts : List (List ℕ)) (t : List ℕ) → AreIn terms ts → list_any (bytes_eq t) ts ≡ true → place bytes_eq terms t < length terms
text-within terms [] t inside h = absurd cc
text-within terms (s ∷ ts) t inside h = within-by terms s t ts (bytes_eq t s) refl inside.0 (text-within terms ts t inside.1) h

-- a picked text is set if and only if its head is true in the fit
set-is : (d : Description) (table : NameTable) (v : Derived → Bool) (row : List Bool) (pick : Derived → Option (List ℕ)) (make : List ℕ → Derived) (t : List ℕ) → IsRead d table v row → table.heads ≡ heads d → IsPick pick make → ((t : List ℕ) → is_among (terms_in State (make t)) t ≡ true)
    → ((s : List ℕ) → is_among (head_terms State d) s ≡ true → is_among table.states s ≡ true) → are_in_order table.states ≡ true
    → is_among (picked (marked (unset (length table.states)) row (mentions_by pick table.states 0 table.heads)) table.states) t ≡ v (make t)
set-is d table v row pick make t read same is about has ordered =
    let terms = table.states in
    let marks = marked (unset (length terms)) row (mentions_by pick terms 0 table.heads) in
    let inside : AreIn terms (texts_by pick table.heads) = subst (λ (hs : List Derived). AreIn terms (texts_by pick hs)) (sym same) (picked-in State d terms pick make is about has) in
    let hit = hits-by table v row pick make terms t 0 table.heads read.by is (heads-stand table d same) inside in
    picked-bit marks terms t (marked-size (length terms) row (mentions_by pick terms 0 table.heads)) (ordered-different terms ordered)
    ∙ bool-same (bit marks (place bytes_eq terms t)) (v (make t))
    (λ h. let lt = past marks (place bytes_eq terms t) h in
    let e = marked-bit (length terms) row (mentions_by pick terms 0 table.heads) (place bytes_eq terms t) (omega (arith, lt, marked-size (length terms) row (mentions_by pick terms 0 table.heads))) in
    and-right (list_any (bytes_eq t) (texts_by pick table.heads)) (v (make t)) (sym hit ∙ sym e ∙ h))
    (λ h. let there = true-is-head table v row read.by read.size (make t) h in
    let found = found-text pick make is table.heads t there in
    let lt = text-within terms (texts_by pick table.heads) t inside found in
    marked-bit (length terms) row (mentions_by pick terms 0 table.heads) (place bytes_eq terms t) lt ∙ hit ∙ and-both _ _ found h)

table-at : (table : NameTable) (rs : List (List ℕ)) (r : ℕ) → r < length rs → get_or (map (role_table table) rs) r no_role ≡ role_table table (get_or rs r [])
table-at table [] r lt = absurd (omega (arith, lt))
table-at table (x ∷ rs) zero lt = refl
table-at table (x ∷ rs) (suc r) lt = table-at table rs r (omega (arith, lt))

pub table-names : (table : NameTable) (rs : List (List ℕ)) → names (map (role_table table) rs) ≡ rs
table-names table [] = refl
table-names table (x ∷ rs) = ap (λ xs. x ∷ xs) (table-names table rs)

take-last : (xs : List (List ℕ)) (n : ℕ) → n < length xs → take n xs ++ get_or xs n [] ∷ [] ≡ take (suc n) xs
take-last [] n lt = absurd (omega (arith, lt))
take-last (x ∷ xs) zero lt = refl
take-last (x ∷ xs) (suc n) lt = ap (λ ys. x ∷ ys) (take-last xs n (omega (arith, lt)))

name-at : (rs : List RoleTable) (r : ℕ) → r < length rs → (get_or rs r no_role).name ≡ get_or (names rs) r []
name-at [] r lt = absurd (omega (arith, lt))
name-at (x ∷ rs) zero lt = refl
name-at (x ∷ rs) (suc r) lt = name-at rs r (omega (arith, lt))

names-front : (g : GameTables) (n : ℕ) → n ≤ length g.roles → names_of (loaded_game g) n ≡ take n (names g.roles)
names-front g zero le = refl
names-front g (suc n) le =
    let lt : n < length (names g.roles) = omega (arith, length-map g.roles (λ (r : RoleTable). r.name), le) in
    ap (λ xs. xs ++ (get_or g.roles n no_role).name ∷ []) (names-front g n (omega (arith, le)))
    ∙ ap (λ x. take n (names g.roles) ++ x ∷ []) (name-at g.roles n (omega (arith, le)))
    ∙ take-last (names g.roles) n lt

all-names : (g : GameTables) → names_of (loaded_game g) (length g.roles) ≡ names g.roles
all-names g = names-front g (length g.roles) (omega arith) ∙ take_all (length g.roles) (names g.roles) (omega (arith, length-map g.roles (λ (r : RoleTable). r.name)))

game-names : (d : Description) (table : NameTable) (rank : ℕ → ℕ) (g : GameTables) → IsBuilt d table rank g → names g.roles ≡ table.roles
game-names d table rank g built = ap names built.role_tables ∙ table-names table table.roles

agrees-empty : (table : NameTable) (n : ℕ) → Agrees table (situation [] [] []) (numbered (unset n) [])
agrees-empty table n = record {
  same = λ a b. refl;
  numbers = λ m n. refl;
  same_term = λ t s. refl;
  in_state = λ t. sym (bit-unset n (state_number table t));
  does = λ r m. sym (no-joint (role_number table r) (move_number table m));
}

state-agrees : (table : NameTable) (terms : List (List ℕ)) (s : List Bool) (t : List ℕ) → terms ≡ table.states → are_in_order table.states ≡ true → length s ≡ length terms → is_among (picked s terms) t ≡ bit s (state_number table t)
state-agrees table terms s t same ordered size =
    ap (λ ts. is_among (picked s ts) t) same ∙ picked-bit s table.states t (size ∙ ap length same) (ordered-different table.states ordered)

agrees-rest : (d : Description) (table : NameTable) (rank : ℕ → ℕ) (g : GameTables) (s : StateRows) → IsBuilt d table rank g → IsSettled g s → Agrees table (at_rest (loaded_game g) s) (numbered s.row [])
agrees-rest d table rank g s built is = record {
  same = λ a b. refl;
  numbers = λ m n. refl;
  same_term = λ t u. refl;
  in_state = λ t. state-agrees table g.states s.row t built.states built.states_ordered is.size;
  does = λ r m. sym (no-joint (role_number table r) (move_number table m));
}

joint-terms : (g : GameTables) (s : StateRows) (joint : List GroundMove) → IsLawful (loaded_game g) → IsSettled g s → IsJoint (loaded_game g) s joint → (k : ℕ) (x : GroundMove) → k < length joint → (get_or joint k x).term < length g.moves
joint-terms g s joint lawful settled is k x lt =
    let within : k < length g.roles = omega (arith, is.width, lt) in
    let c = is.legal k x within in
    let m = get_or joint k x in
    let h = lawful.legal_are_moves s k settled within c.0 m c.1 in
    let e = ap (λ (y : GroundMove). y.term) c.2 in
    omega (arith, h, e)

agrees-turn : (d : Description) (table : NameTable) (rank : ℕ → ℕ) (g : GameTables) (s : StateRows) (joint : List GroundMove) → IsBuilt d table rank g → IsLawful (loaded_game g) → IsSettled g s → IsJoint (loaded_game g) s joint → Agrees table (at_turn (loaded_game g) s joint) (numbered s.row (terms_of joint))
agrees-turn d table rank g s joint built lawful settled is =
    let same = game-names d table rank g built in
    let all = all-names g ∙ same in
    record {
      same = λ a b. refl;
      numbers = λ m n. refl;
      same_term = λ t u. refl;
      in_state = λ t. state-agrees table g.states s.row t built.states built.states_ordered settled.size;
      does = λ r m.
          ap (λ ns. makes ns (map (text_of g.moves) joint) r m) all
          ∙ ap (λ ts. makes table.roles (map (text_of ts) joint) r m) built.moves
          ∙ makes-bit table.roles table.moves joint r m (is.width ∙ sym (length-map g.roles (λ (x : RoleTable). x.name)) ∙ ap length same) built.differ (ordered-different table.moves built.moves_ordered)
          (λ k x lt. let h = joint-terms g s joint lawful settled is k x lt in omega (arith, h, ap length built.moves));
    }

role-is : (d : Description) (table : NameTable) (rank : ℕ → ℕ) (g : GameTables) (r : ℕ) → IsBuilt d table rank g → r < length g.roles → role_at g r ≡ role_table table (role_at g r).name
role-is d table rank g r built lt =
    let lt' : r < length table.roles = omega (arith, lt, ap length built.role_tables, length-map table.roles (role_table table)) in
    let e : role_at g r ≡ role_table table (get_or table.roles r []) = ap (λ rs. get_or rs r no_role) built.role_tables ∙ table-at table table.roles r lt' in
    e ∙ ap (role_table table) (sym (ap (λ (x : RoleTable). x.name) e))

-- the two passes, one after the other, give the row of one pass over all rules
turn-is : (d : Description) (table : NameTable) (rank : ℕ → ℕ) (g : GameTables) (s : StateRows) (joint : List ℕ) → IsBuilt d table rank g → s.kept ≡ kept_row g s.row → turn_row g s joint ≡ row_of g s.row joint
turn-is d table rank g s joint built kept =
    let w = numbered s.row joint in
    ap (λ row. row_after w row g.turn) (kept ∙ sym (still-pass s.row joint (unset g.atoms) g.rest built.no_moves))
    ∙ sym (pass-append w (unset g.atoms) g.rest g.turn)

-- two rows agree on the answers
abbrev pub SayTheSame : NameTable → List Bool → List Bool → Type 0
SayTheSame table u v = (a : Derived) → IsAnswer a → bit u (atom_number table a) ≡ bit v (atom_number table a)

kept-says : (d : Description) (table : NameTable) (rank : ℕ → ℕ) (g : GameTables) (s : StateRows) → IsBuilt d table rank g → IsSettled g s → SayTheSame table s.kept (row_of g s.row [])
kept-says d table rank g s built is a answer =
    ap (λ row. bit row (atom_number table a)) is.kept
    ∙ sym (kept-bit (numbered s.row []) (kept_row g s.row) g.turn (atom_number table a) (built.answers a answer))
    ∙ ap (λ row. bit row (atom_number table a)) (sym (pass-append (numbered s.row []) (unset g.atoms) g.rest g.turn))

same-legal : (table : NameTable) (terms : List (List ℕ)) (role : List ℕ) (u v : List Bool) (n : ℕ) (hs : List Derived) → StandFrom table n hs → SayTheSame table u v → filter (λ h. bit u h.atom) (legal_mentions terms role n hs) ≡ filter (λ h. bit v h.atom) (legal_mentions terms role n hs)
same-legal table terms role u v n [] stand same = refl
same-legal table terms role u v n (Legal r m ∷ as') stand same = by (bytes_eq r role) (same-legal table terms role u v (n + 1) as' stand.1 same) (ap (bit u) (sym stand.0) ∙ same (Legal r m) tt ∙ ap (bit v) stand.0)
  where
    by : (b : Bool) → filter (λ h. bit u h.atom) (legal_mentions terms role (n + 1) as') ≡ filter (λ h. bit v h.atom) (legal_mentions terms role (n + 1) as') → bit u n ≡ bit v n
        → filter (λ h. bit u h.atom) (if b then record { term = place bytes_eq terms m; atom = n } ∷ legal_mentions terms role (n + 1) as' else legal_mentions terms role (n + 1) as')
        ≡ filter (λ h. bit v h.atom) (if b then record { term = place bytes_eq terms m; atom = n } ∷ legal_mentions terms role (n + 1) as' else legal_mentions terms role (n + 1) as')
    by true rest e = cc
    by false rest e = rest
same-legal table terms role u v n (Role r ∷ as') stand same = same-legal table terms role u v (n + 1) as' stand.1 same
same-legal table terms role u v n (Init t ∷ as') stand same = same-legal table terms role u v (n + 1) as' stand.1 same
same-legal table terms role u v n (Next t ∷ as') stand same = same-legal table terms role u v (n + 1) as' stand.1 same
same-legal table terms role u v n (Goal r m ∷ as') stand same = same-legal table terms role u v (n + 1) as' stand.1 same
same-legal table terms role u v n (Terminal ∷ as') stand same = same-legal table terms role u v (n + 1) as' stand.1 same
same-legal table terms role u v n (Other t ∷ as') stand same = same-legal table terms role u v (n + 1) as' stand.1 same

same-goals : (table : NameTable) (role : List ℕ) (u v : List Bool) (n : ℕ) (hs : List Derived) → StandFrom table n hs → SayTheSame table u v → filter (λ h. bit u h.atom) (goal_heads role n hs) ≡ filter (λ h. bit v h.atom) (goal_heads role n hs)
same-goals table role u v n [] stand same = refl
same-goals table role u v n (Goal r m ∷ as') stand same = by (bytes_eq r role) (same-goals table role u v (n + 1) as' stand.1 same) (ap (bit u) (sym stand.0) ∙ same (Goal r m) tt ∙ ap (bit v) stand.0)
  where
    by : (b : Bool) → filter (λ h. bit u h.atom) (goal_heads role (n + 1) as') ≡ filter (λ h. bit v h.atom) (goal_heads role (n + 1) as') → bit u n ≡ bit v n
        → filter (λ h. bit u h.atom) (if b then record { value = m; atom = n } ∷ goal_heads role (n + 1) as' else goal_heads role (n + 1) as')
        ≡ filter (λ h. bit v h.atom) (if b then record { value = m; atom = n } ∷ goal_heads role (n + 1) as' else goal_heads role (n + 1) as')
    by true rest e = cc
    by false rest e = rest
same-goals table role u v n (Role r ∷ as') stand same = same-goals table role u v (n + 1) as' stand.1 same
same-goals table role u v n (Init t ∷ as') stand same = same-goals table role u v (n + 1) as' stand.1 same
same-goals table role u v n (Next t ∷ as') stand same = same-goals table role u v (n + 1) as' stand.1 same
same-goals table role u v n (Legal r m ∷ as') stand same = same-goals table role u v (n + 1) as' stand.1 same
same-goals table role u v n (Terminal ∷ as') stand same = same-goals table role u v (n + 1) as' stand.1 same
same-goals table role u v n (Other t ∷ as') stand same = same-goals table role u v (n + 1) as' stand.1 same

-- the game's answers are those of every fit of the description
pub game-of : (d : Description) (table : NameTable) (rank : ℕ → ℕ) (g : GameTables) → IsBuilt d table rank g → IsLawful (loaded_game g) → IsGameOf d (loaded_game g)
game-of d table rank g built lawful = record {
  roles = all-names g ∙ game-names d table rank g built ∙ built.roles;
  initial = λ v fits t.
      let none = unset (length g.states) in
      let read = read-row d table rank g (situation [] [] []) none [] v built (agrees-empty table (length g.states)) fits in
      ap (λ row. is_among (picked (marked (unset (length g.states)) row g.init) g.states) t) (turn-is d table rank g (settled g none) [] built refl)
      ∙ ap (λ ms. is_among (picked (marked (unset (length g.states)) (row_of g none []) ms) g.states) t) built.init
      ∙ ap (λ ts. is_among (picked (marked (unset (length ts)) (row_of g none []) (mentions_by (state_term InitHead) table.states 0 table.heads)) ts) t) built.states
      ∙ set-is d table v (row_of g none []) (state_term InitHead) Init t read built.heads' init-picks one-about built.has_states built.states_ordered;
  legal = λ s r v is within fits.
      let read = read-row d table rank g (at_rest (loaded_game g) s) s.row [] v built (agrees-rest d table rank g s built is) fits in
      let name = (role_at g r).name in
      let inside : AreIn table.moves (texts_by (legal_pick name) table.heads) = subst (λ (hs : List Derived). AreIn table.moves (texts_by (legal_pick name) hs)) (sym built.heads') (picked-in Move d table.moves (legal_pick name) (Legal name) (legal-picks name) one-about built.has_moves) in
      let says : filter (λ h. bit s.kept h.atom) (role_at g r).legal ≡ filter (λ h. bit (row_of g s.row []) h.atom) (role_at g r).legal =
      subst (λ (ms : List Mention). filter (λ h. bit s.kept h.atom) ms ≡ filter (λ h. bit (row_of g s.row []) h.atom) ms) (sym (ap (λ (x : RoleTable). x.legal) (role-is d table rank g r built within)))
      (same-legal table table.moves name s.kept (row_of g s.row []) 0 table.heads (heads-stand table d built.heads') (kept-says d table rank g s built is)) in
      ap (λ (hs : List Mention). map (text_of g.moves) (map (λ h. record { term = h.term }) hs)) says
      ∙ ap (λ ts. map (text_of ts) (chosen (row_of g s.row []) (role_at g r).legal)) built.moves
      ∙ ap (λ ms. map (text_of table.moves) (chosen (row_of g s.row []) ms)) (ap (λ (x : RoleTable). x.legal) (role-is d table rank g r built within) ∙ legal-mentions table.moves name 0 table.heads)
      ∙ chosen-texts table v (row_of g s.row []) (legal_pick name) (Legal name) table.moves 0 table.heads read.by (legal-picks name) (heads-stand table d built.heads') inside
      ∙ ap (filter (λ m. v (Legal name m))) (sym (moves-texts name table.heads) ∙ ap (moves_in name) built.heads');
  next = λ s joint v is lawful' fits t.
      let read = read-row d table rank g (at_turn (loaded_game g) s joint) s.row (terms_of joint) v built (agrees-turn d table rank g s joint built lawful is lawful') fits in
      ap (λ row. is_among (picked (marked (unset (length g.states)) row g.next) g.states) t) (turn-is d table rank g s (terms_of joint) built is.kept)
      ∙ ap (λ ms. is_among (picked (marked (unset (length g.states)) (row_of g s.row (terms_of joint)) ms) g.states) t) built.next
      ∙ ap (λ ts. is_among (picked (marked (unset (length ts)) (row_of g s.row (terms_of joint)) (mentions_by (state_term NextHead) table.states 0 table.heads)) ts) t) built.states
      ∙ set-is d table v (row_of g s.row (terms_of joint)) (state_term NextHead) Next t read built.heads' next-picks one-about built.has_states built.states_ordered;
  terminal = λ s v is fits.
      let read = read-row d table rank g (at_rest (loaded_game g) s) s.row [] v built (agrees-rest d table rank g s built is) fits in
      ap (bit s.kept) built.terminal ∙ kept-says d table rank g s built is Terminal tt ∙ sym (read.by Terminal);
  goal = λ s r v is within fits.
      let read = read-row d table rank g (at_rest (loaded_game g) s) s.row [] v built (agrees-rest d table rank g s built is) fits in
      let name = (role_at g r).name in
      let answer = goal-answer table v (row_of g s.row []) name read.by (heads-stand table d built.heads') (true-is-head table v (row_of g s.row []) read.by read.size) in
      let says : filter (λ h. bit s.kept h.atom) (role_at g r).goals ≡ filter (λ h. bit (row_of g s.row []) h.atom) (role_at g r).goals =
      subst (λ (gs : List GoalHead). filter (λ h. bit s.kept h.atom) gs ≡ filter (λ h. bit (row_of g s.row []) h.atom) gs) (sym (ap (λ (x : RoleTable). x.goals) (role-is d table rank g r built within)))
      (same-goals table name s.kept (row_of g s.row []) 0 table.heads (heads-stand table d built.heads') (kept-says d table rank g s built is)) in
      subst (λ (gs : List GoalHead). IsGoalAnswer v name (only gs)) (sym says)
      (subst (λ (x : RoleTable). IsGoalAnswer v name (only_goal (row_of g s.row []) x.goals)) (sym (role-is d table rank g r built within)) answer);
}
