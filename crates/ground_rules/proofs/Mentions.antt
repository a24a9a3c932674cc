-- The tables of a game select the terms whose heads are true in the fit.
use Rattle.std.proofs.Common.{◌≡◌, ◌≢◌, ℕ, zero, suc, ◌+◌, ◌<◌, ◌≤◌, Bool, true, false, ◌&&◌, ◌||◌, if◌then◌else◌, nat_eq, bytes_eq, List, [], ◌∷◌, ◌++◌, length, get_or, set, map, filter, Option, Some, None, refl, sym, ap, ◌∙◌, arith, length-set, get_or-set_other}
use mathlib.Core.Bool.{or-false, or-true, or_assoc}
use Rattle.std.proofs.lemmas.Grind.{get_or-set_at}
use Rattle.std.proofs.lemmas.List.{length-replicate}
use Rattle.std.specs.List.{list_any}
use Rattle.rule_sentences.specs.declared.sentence.Derived.{Derived}
use Rattle.rule_sentences.specs.declared.sentence.Derived.TheVariants.{Role, Init, Next, Legal, Goal, Terminal, Other}
use Rattle.ground_rules.specs.declared.tables.StateHead.TheVariants.{Init as InitHead, Next as NextHead}
use Rattle.ground_rules.specs.declared.tables.Mention.{Mention}
use Rattle.ground_rules.specs.Lawfulness.Bools.{bool-same}
use Rattle.ground_rules.specs.Lawfulness.Names.{text-sound, text-same, number-sound, number-same}
use Rattle.rule_sentences.specs.Descriptions.{moves_in}
use Rattle.ground_rules.specs.Lookups.{marked, chosen}
use Rattle.numbered_rules.specs.Numbered.{bit, unset}
use Rattle.ground_rules.specs.Internal.Resolved.{NameTable, atom_number, with_mention, mentions_by, state_term, legal_mentions, place}
use Rattle.ground_rules.proofs.TablePlaces.{place-at, place-one}
use Rattle.ground_rules.proofs.Situations.{text-decides, text_of}

-- whether some true mention has this term
abbrev pub hits : List Bool → List Mention → ℕ → Bool
hits row [] k = false
hits row (m ∷ ms) k = (bit row m.atom && nat_eq m.term k) || hits row ms k

set-bit : (marks : List Bool) (t k : ℕ) (here eq : Bool) → nat_eq t k ≡ eq → k < length marks → bit (if here then set marks t true else marks) k ≡ (bit marks k || (here && eq))
set-bit marks t k false eq is lt = sym (or-false (bit marks k))
set-bit marks t k true true is lt = get_or-set_at marks t k true false (sym (number-sound t k is)) (omega (arith, number-sound t k is, lt)) ∙ sym (or-true (bit marks k))
set-bit marks t k true false is lt =
    let ne : k ≢ t = λ e. let f = number-same t k (sym e) in absurd cc in
    get_or-set_other marks t k true false ne ∙ sym (or-false (bit marks k))

kept-length : (marks : List Bool) (t : ℕ) (here : Bool) → length (if here then set marks t true else marks) ≡ length marks
kept-length marks t true = length-set marks t true
kept-length marks t false = refl

marked-hits : (marks row : List Bool) (ms : List Mention) (k : ℕ) → k < length marks → bit (marked marks row ms) k ≡ (bit marks k || hits row ms k)
marked-hits marks row [] k lt = sym (or-false (bit marks k))
marked-hits marks row (m ∷ ms) k lt =
    let next = if bit row m.atom then set marks m.term true else marks in
    marked-hits next row ms k (omega (arith, kept-length marks m.term (bit row m.atom), lt))
    ∙ ap (λ b. b || hits row ms k) (set-bit marks m.term k (bit row m.atom) (nat_eq m.term k) refl lt)
    ∙ or_assoc (bit marks k) (bit row m.atom && nat_eq m.term k) (hits row ms k)

unset-bit : (n k : ℕ) → bit (unset n) k ≡ false
unset-bit zero k = refl
unset-bit (suc n) zero = refl
unset-bit (suc n) (suc k) = unset-bit n k

past-bit : (row : List Bool) (k : ℕ) → length row ≤ k → bit row k ≡ false
past-bit [] k le = refl
past-bit (b ∷ bs) zero le = absurd (omega (arith, le))
past-bit (b ∷ bs) (suc k) le = past-bit bs k (omega (arith, le))

pub marked-bit : (n : ℕ) (row : List Bool) (ms : List Mention) (k : ℕ) → k < n → bit (marked (unset n) row ms) k ≡ hits row ms k
marked-bit n row ms k lt = marked-hits (unset n) row ms k (omega (arith, length-replicate n false, lt)) ∙ ap (λ b. b || hits row ms k) (unset-bit n k)

-- the numbers of the heads are consecutive, beginning with n
abbrev pub StandFrom : NameTable → ℕ → List Derived → Type 0
StandFrom names n [] = Unit {0}
StandFrom names n (a ∷ as') = (atom_number names a ≡ n) × StandFrom names (n + 1) as'

-- the row agrees with the fit
abbrev pub IsByRow : NameTable → (Derived → Bool) → List Bool → Type 0
IsByRow names v row = (a : Derived) → v a ≡ bit row (atom_number names a)

place-test : (terms : List (List ℕ)) (t s : List ℕ) → place bytes_eq terms t < length terms → nat_eq (place bytes_eq terms t) (place bytes_eq terms s) ≡ bytes_eq s t
place-test terms t s lt =
    bool-same _ (bytes_eq s t)
    (λ e. text-same s t (sym (place-one bytes_eq text-decides terms t s lt (number-sound _ _ e))))
    (λ e. number-same _ _ (ap (place bytes_eq terms) (sym (text-sound s t e))))

-- the texts of some kind of heads: pick gives the text of such a head, and make gives the head with a text
pub record IsPick (pick : Derived → Option (List ℕ)) (make : List ℕ → Derived) : Type 0 where
  pub made : (a : Derived) (t : List ℕ) → pick a ≡ Some t → a ≡ make t
  pub picked : (t : List ℕ) → pick (make t) ≡ Some t

abbrev pub with_text : Option (List ℕ) → List (List ℕ) → List (List ℕ)
with_text (Some t) ts = t ∷ ts
with_text None ts = ts

abbrev pub texts_by : (Derived → Option (List ℕ)) → List Derived → List (List ℕ)
texts_by pick [] = []
texts_by pick (a ∷ as') = with_text (pick a) (texts_by pick as')

abbrev pub AreIn : List (List ℕ) → List (List ℕ) → Type 0
AreIn terms [] = Unit {0}
AreIn terms (t ∷ ts) = (place bytes_eq terms t < length terms) × AreIn terms ts

join : (here eq V L : Bool) → (eq ≡ true → here ≡ V) → ((here && eq) || (L && V)) ≡ ((eq || L) && V)
join true true V L e = let f = e refl in by-value V L f
  where
    by-value : (V L : Bool) → true ≡ V → true ≡ V
    by-value V L f = f
join false true true L e = absurd (let f = e refl in cc)
join false true false true e = refl
join false true false false e = refl
join true false V L e = refl
join false false V L e = refl

pub hits-by : (names : NameTable) (v : Derived → Bool) (row : List Bool) (pick : Derived → Option (List ℕ)) (make : List ℕ → Derived) (terms : List (List ℕ)) (t : List ℕ) (n : ℕ) (hs : List Derived)
    → IsByRow names v row → IsPick pick make → StandFrom names n hs → AreIn terms (texts_by pick hs)
    → hits row (mentions_by pick terms n hs) (place bytes_eq terms t) ≡ (list_any (bytes_eq t) (texts_by pick hs) && v (make t))
hits-by names v row pick make terms t n [] by is stand within = refl
hits-by names v row pick make terms t n (a ∷ as') by is stand within =
    by-pick (pick a) refl within (hits-by names v row pick make terms t (n + 1) as' by is stand.1)
  where
    by-pick : (o : Option (List ℕ)) → pick a ≡ o → AreIn terms (with_text o (texts_by pick as'))
        → (AreIn terms (texts_by pick as') → hits row (mentions_by pick terms (n + 1) as') (place bytes_eq terms t) ≡ (list_any (bytes_eq t) (texts_by pick as') && v (make t)))
        → hits row (with_mention terms n o (mentions_by pick terms (n + 1) as')) (place bytes_eq terms t) ≡ (list_any (bytes_eq t) (with_text o (texts_by pick as')) && v (make t))
    by-pick None e within rest = rest within
    by-pick (Some s) e within rest =
        let test = place-test terms s t within.0 in
        let at : bytes_eq t s ≡ true → bit row n ≡ v (make t) = λ same.
        ap (bit row) (sym stand.0) ∙ sym (by a) ∙ ap v (is.made a s e) ∙ ap (λ x. v (make x)) (sym (text-sound t s same)) in
        rw (test, rest within.1) (join (bit row n) (bytes_eq t s) (v (make t)) (list_any (bytes_eq t) (texts_by pick as')) at)

-- the texts of the true heads
pub chosen-texts : (names : NameTable) (v : Derived → Bool) (row : List Bool) (pick : Derived → Option (List ℕ)) (make : List ℕ → Derived) (terms : List (List ℕ)) (n : ℕ) (hs : List Derived)
    → IsByRow names v row → IsPick pick make → StandFrom names n hs → AreIn terms (texts_by pick hs)
    → map (text_of terms) (chosen row (mentions_by pick terms n hs)) ≡ filter (λ m. v (make m)) (texts_by pick hs)
chosen-texts names v row pick make terms n [] by is stand within = refl
chosen-texts names v row pick make terms n (a ∷ as') by is stand within =
    by-pick (pick a) refl within (chosen-texts names v row pick make terms (n + 1) as' by is stand.1)
  where
    by-bit : (s : List ℕ) (ms : List Mention) (rest : List (List ℕ)) (b : Bool) → get_or terms (place bytes_eq terms s) [] ≡ s → map (text_of terms) (map (λ (h : Mention). record { term = h.term }) ms) ≡ rest
        → map (text_of terms) (map (λ (h : Mention). record { term = h.term }) (if b then record { term = place bytes_eq terms s; atom = n } ∷ ms else ms)) ≡ (if b then s ∷ rest else rest)
    by-bit s ms rest true at e = let f = at in cc
    by-bit s ms rest false at e = e

    by-pick : (o : Option (List ℕ)) → pick a ≡ o → AreIn terms (with_text o (texts_by pick as'))
        → (AreIn terms (texts_by pick as') → map (text_of terms) (chosen row (mentions_by pick terms (n + 1) as')) ≡ filter (λ m. v (make m)) (texts_by pick as'))
        → map (text_of terms) (chosen row (with_mention terms n o (mentions_by pick terms (n + 1) as'))) ≡ filter (λ m. v (make m)) (with_text o (texts_by pick as'))
    by-pick None e within rest = rest within
    by-pick (Some s) e within rest =
        let at : bit row n ≡ v (make s) = ap (bit row) (sym stand.0) ∙ sym (by a) ∙ ap v (is.made a s e) in
        rw (← at) (by-bit s (filter (λ (h : Mention). bit row h.atom) (mentions_by pick terms (n + 1) as')) (filter (λ m. v (make m)) (texts_by pick as')) (bit row n) (place-at bytes_eq text-decides terms s [] within.0) (rest within.1))

abbrev pub legal_pick : List ℕ → Derived → Option (List ℕ)
legal_pick role (Role r) = None
legal_pick role (Init t) = None
legal_pick role (Next t) = None
legal_pick role (Legal r m) = if bytes_eq r role then Some m else None
legal_pick role (Goal r n) = None
legal_pick role Terminal = None
legal_pick role (Other t) = None

some-is : (s t : List ℕ) → ◌≡◌ {A = Option (List ℕ)} (Some s) (Some t) → s ≡ t
some-is s t e = cc

pub init-picks : IsPick (state_term InitHead) Init
init-picks = record { made = made; picked = λ t. refl }
  where
    made : (a : Derived) (t : List ℕ) → state_term InitHead a ≡ Some t → a ≡ Init t
    made (Role r) t e = absurd cc
    made (Init s) t e = ap Init (some-is s t e)
    made (Next s) t e = absurd cc
    made (Legal r m) t e = absurd cc
    made (Goal r n) t e = absurd cc
    made Terminal t e = absurd cc
    made (Other s) t e = absurd cc

pub next-picks : IsPick (state_term NextHead) Next
next-picks = record { made = made; picked = λ t. refl }
  where
    made : (a : Derived) (t : List ℕ) → state_term NextHead a ≡ Some t → a ≡ Next t
    made (Role r) t e = absurd cc
    made (Init s) t e = absurd cc
    made (Next s) t e = ap Next (some-is s t e)
    made (Legal r m) t e = absurd cc
    made (Goal r n) t e = absurd cc
    made Terminal t e = absurd cc
    made (Other s) t e = absurd cc

legal-made : (role : List ℕ) (a : Derived) (t : List ℕ) → legal_pick role a ≡ Some t → a ≡ Legal role t
legal-made role (Role r) t e = absurd cc
legal-made role (Init s) t e = absurd cc
legal-made role (Next s) t e = absurd cc
legal-made role (Legal r m) t e = by-test (bytes_eq r role) refl e
  where
    by-test : (b : Bool) → bytes_eq r role ≡ b → (if b then Some m else None) ≡ Some t → Legal r m ≡ Legal role t
    by-test true is e = let f = text-sound r role is in let g = some-is m t e in cc
    by-test false is e = absurd cc
legal-made role (Goal r n) t e = absurd cc
legal-made role Terminal t e = absurd cc
legal-made role (Other s) t e = absurd cc

pub legal-picks : (role : List ℕ) → IsPick (legal_pick role) (Legal role)
legal-picks role = record { made = legal-made role; picked = λ t. rw (text-same role role refl) refl }

legal-by : (terms : List (List ℕ)) (n : ℕ) (m : List ℕ) (b : Bool) (xs ys : List Mention) → xs ≡ ys → (if b then record { term = place bytes_eq terms m; atom = n } ∷ xs else xs) ≡ with_mention terms n (if b then Some m else None) ys
legal-by terms n m true xs ys e = ap (λ ms. record { term = place bytes_eq terms m; atom = n } ∷ ms) e
legal-by terms n m false xs ys e = e

pub legal-mentions : (terms : List (List ℕ)) (role : List ℕ) (n : ℕ) (hs : List Derived) → legal_mentions terms role n hs ≡ mentions_by (legal_pick role) terms n hs
legal-mentions terms role n [] = refl
legal-mentions terms role n (Role r ∷ hs) = legal-mentions terms role (n + 1) hs
legal-mentions terms role n (Init t ∷ hs) = legal-mentions terms role (n + 1) hs
legal-mentions terms role n (Next t ∷ hs) = legal-mentions terms role (n + 1) hs
legal-mentions terms role n (Legal r m ∷ hs) = legal-by terms n m (bytes_eq r role) _ _ (legal-mentions terms role (n + 1) hs)
legal-mentions terms role n (Goal r k ∷ hs) = legal-mentions terms role (n + 1) hs
legal-mentions terms role n (Terminal ∷ hs) = legal-mentions terms role (n + 1) hs
legal-mentions terms role n (Other t ∷ hs) = legal-mentions terms role (n + 1) hs

moves-by : (m : List ℕ) (b : Bool) (xs ys : List (List ℕ)) → xs ≡ ys → ((if b then m ∷ [] else []) ++ xs) ≡ with_text (if b then Some m else None) ys
moves-by m true xs ys e = ap (λ ts. m ∷ ts) e
moves-by m false xs ys e = e

pub moves-texts : (role : List ℕ) (hs : List Derived) → moves_in role hs ≡ texts_by (legal_pick role) hs
moves-texts role [] = refl
moves-texts role (Role r ∷ hs) = moves-texts role hs
moves-texts role (Init t ∷ hs) = moves-texts role hs
moves-texts role (Next t ∷ hs) = moves-texts role hs
moves-texts role (Legal r m ∷ hs) = moves-by m (bytes_eq r role) _ _ (moves-texts role hs)
moves-texts role (Goal r n ∷ hs) = moves-texts role hs
moves-texts role (Terminal ∷ hs) = moves-texts role hs
moves-texts role (Other t ∷ hs) = moves-texts role hs
