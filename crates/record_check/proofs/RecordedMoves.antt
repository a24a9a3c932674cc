-- A recorded move and its error, and the joint move of a turn.
use Rattle.std.proofs.Common.{◌≡◌, ◌≢◌, ℕ, zero, suc, ◌+◌, ◌<◌, ◌≤◌, Bool, true, false, Decides, not, true≢false, Option, Some, None, List, [], ◌∷◌, ◌++◌, length, take, map, refl, sym, ap, ◌∙◌, subst, arith, inl, inr, ◌⊎◌, Contains, codes, eqb}
use Rattle.std.proofs.Math.Bool.{beq}
use Rattle.std.proofs.Math.Nat.{eq-or-lt_of_le}
use Rattle.std.specs.Prelude.{All, AllPairs, IsTrue, is_some, slice_index_or, slice_get, ◌↔◌, ◌==◌}
use Rattle.std.specs.List.{HoldsAt}
use Rattle.std.proofs.lemmas.List.{append_cancel_left, length_push, map_push, take_more, take_all, get_or_push, get_or_append_left}
use Rattle.std.proofs.lemmas.Bool.Decides.{nat_tests}
use Rattle.std.proofs.lemmas.List.Elements.{Contains-get_or}
use Rattle.std.proofs.lemmas.Option.{get_or_from_slice_get, slice_get_read, slice_get_within}
use Rattle.game_core.specs.Play.{Rules, IsLawful}
use Rattle.match_book.specs.LegalMoves.{AreLegalMoves}
use Rattle.match_book.specs.Judgement.{error_text, MayStand, IsJudged, IsPart, NamesNone, IsPlaceOf, illegal_prefix, retired_text}
use Rattle.match_book.specs.declared.judgement.Substitution.{Substitution}
use Rattle.match_book.specs.declared.judgement.Substitution.TheVariants.{TimeOut, ConnectionError, Unreadable, Illegal, Retired}
use Rattle.record_reading.specs.RecordParts.{IsErrorText, MayBeGiven}
use Rattle.record_check.specs.Replaying.{GoesOn, IsRightMove, DeniesOne, IsWrongError, IsWrongFor, IsWrongRetired, text_at}
use Rattle.record_check.specs.Internal.ReplaySteps.{IsRightJoint}

-- ---- Members

pub element-at : {A : Type 0} (xs : List A) (k : ℕ) → k < length xs → (x : A) × (slice_index_or xs k x ≡ x)
element-at [] k lt = absurd (omega arith)
element-at (x ∷ xs) zero lt = (x, refl)
element-at (x ∷ xs) (suc k) lt = element-at xs k (omega arith)

pub All-get : {A : Type 0} (P : A → Type 0) (xs : List A) (k : ℕ) (x : A) → All P xs → slice_get xs k ≡ Some x → P x
All-get P xs k x all at = subst P (get_or_from_slice_get xs k x x at) (all k x (slice_get_within xs k x at))

first-contains : {M : Type 0} (moves : List M) (m : M) → slice_get moves 0 ≡ Some m → Contains moves m
first-contains [] m first = absurd cc
first-contains (x ∷ xs) m first = let same : x ≡ m = cc in (0, omega arith, same)

Contains-move : {S M : Type 0} (g : Rules S M) → IsLawful g → (s : S) (r : ℕ) (m : M) → g.IsState s → r < g.roles → Contains (g.legal s r) m → g.IsMove m
Contains-move {S} {M} g laws s r m is_state role among = subst (λ (x : M). g.IsMove x) among.2 (laws.legal_are_moves s r is_state role among.0 m among.1)

named-none : {S M : Type 0} (g : Rules S M) (moves : List M) (x : List ℕ) (m : M) → NamesNone g moves x → Contains moves m → g.move_text m ≢ x
named-none {S} {M} g moves x m none among = subst (λ (n : M). g.move_text n ≢ x) among.2 (none among.0 m among.1)

-- ---- Errors

illegal_text : (x y : List ℕ) → error_text (Illegal x) ≡ error_text (Illegal y) → x ≡ y
illegal_text x y same = append_cancel_left illegal_prefix x y same

pub denies-place : {S M : Type 0} (g : Rules S M) (moves : List M) (e x : List ℕ) (o : Option ℕ) → e ≡ illegal_prefix ++ x → IsPlaceOf g moves x o → IsTrue (is_some o) ↔ DeniesOne g moves e
denies-place g moves e x None is none = (λ w. absurd cc, λ d. absurd (named-none g moves x d.0 none d.1 (illegal_text (g.move_text d.0) x (sym d.2 ∙ is))))
denies-place {S} {M} g moves e x (Some p) is place =
    let m = element-at moves p place.0 in
    let text : g.move_text m.0 ≡ x = subst (λ (n : M). g.move_text n ≡ x) m.1 (place.1 m.0) in
    (λ _. (m.0, (p, place.0, m.1), is ∙ ap (λ y. error_text (Illegal y)) (sym text)), λ _. refl)

may-stand : {S M : Type 0} (g : Rules S M) (moves : List M) (e : List ℕ) (why : Substitution) → e ≡ error_text why → MayBeGiven why → e ≢ retired_text → ¬ (DeniesOne g moves e) → MayStand g moves why
may-stand g moves e TimeOut is given active not = tt
may-stand g moves e ConnectionError is given active not = tt
may-stand g moves e Unreadable is given active not = tt
may-stand g moves e Retired is given active not = absurd (active is)
may-stand g moves e (Illegal x) is given active not =
    (given.0, given.1, λ k d lt w. not (slice_index_or moves k d, Contains-get_or moves k d lt, is ∙ ap (λ y. error_text (Illegal y)) (sym w)))

pub first-judged : {S M : Type 0} (g : Rules S M) (moves : List M) (m : M) (e : List ℕ) → IsErrorText e → e ≢ retired_text → slice_get moves 0 ≡ Some m → ¬ (DeniesOne g moves e) → IsJudged g moves m e
first-judged g moves m e (inl empty) active first not = (first-contains moves m first, inl empty)
first-judged g moves m e (inr reason) active first not = (first-contains moves m first, inr (first, (reason.0, reason.1, may-stand g moves e reason.0 reason.1 reason.2 active not)))

pub found-place : {S M : Type 0} (g : Rules S M) (moves : List M) (x : List ℕ) (o : Option ℕ) (p : ℕ) → o ≡ Some p → IsPlaceOf g moves x o → (p < length moves) × HoldsAt (λ m. g.move_text m ≡ x) moves p
found-place g moves x o p at place = let found = subst (λ q. IsPlaceOf g moves x q) at place in (found.0, found.1)

pub not-empty : (e : List ℕ) → false ≡ (length e == 0) → e ≢ []
not-empty e some empty = let w : false ≡ (length {A = ℕ} [] == 0) = some ∙ ap (λ l. length l == 0) empty in absurd cc

pub is-empty : (e : List ℕ) → true ≡ (length e == 0) → e ≡ []
is-empty [] none = refl
is-empty (x ∷ xs) none = let w = longer (length xs) in absurd cc
  where
    longer : (n : ℕ) → (suc n == 0) ≡ false
    longer n = grind (arith, nat_tests)

-- the error says that the role is retired if and only if the role is retired
abbrev pub IsRightFor : Bool → List ℕ → Type 0
IsRightFor true e = e ≡ retired_text
IsRightFor false e = e ≢ retired_text

pub right-for : (retired says : Bool) (e : List ℕ) → Decides says (e ≡ retired_text) → not (beq retired says) ≡ false → IsRightFor retired e
right-for true true e decides same = decides.0 refl
right-for true false e decides same = absurd cc
right-for false true e decides same = absurd cc
right-for false false e decides same = λ is. true≢false (sym (decides.1 is))

pub wrong-for : (retired says : Bool) (e : List ℕ) → Decides says (e ≡ retired_text) → not (beq retired says) ≡ true → IsWrongFor retired e
wrong-for true true e decides other = absurd cc
wrong-for true false e decides other = λ is. true≢false (sym (decides.1 is))
wrong-for false true e decides other = decides.0 refl
wrong-for false false e decides other = absurd cc

-- e may be the error of the move with index p: it is empty, or the move is the first one and e does not call a legal move illegal
abbrev pub MayFollow : {S M : Type 0} → Rules S M → List M → ℕ → List ℕ → Type 0
MayFollow g moves p e = (e ≡ []) ⊎ ((p ≤ 0) × ¬ (DeniesOne g moves e))

first-at : {M : Type 0} (moves : List M) (p : ℕ) (m : M) → p < length moves → m ≡ slice_index_or moves p m → p ≤ 0 → slice_get moves 0 ≡ Some m
first-at moves p m within taken first =
    let zeroth : p ≡ 0 = omega (arith, first) in
    slice_get_read moves (length moves) 0 m refl (omega (arith, within)) (taken ∙ ap (λ k. slice_index_or moves k m) zeroth)

pub right-move : {S M : Type 0} (g : Rules S M) (retired : Bool) (moves : List M) (m : M) (text e : List ℕ) (p : ℕ) → IsErrorText e → (p < length moves) × HoldsAt (λ n. g.move_text n ≡ text) moves p → m ≡ slice_index_or moves p m
    → IsRightFor retired e → MayFollow g moves p e → (g.move_text m ≡ text) × IsPart g retired moves m e
right-move {S} {M} g retired moves m text e p error place taken fits may =
    (subst (λ (n : M). g.move_text n ≡ text) (sym taken) (place.1 m), part retired fits may)
  where
    part : (b : Bool) → IsRightFor b e → (e ≡ []) ⊎ ((p ≤ 0) × ¬ (DeniesOne g moves e)) → IsPart g b moves m e
    part true fits (inl empty) = absurd (let w : [] ≡ retired_text = sym empty ∙ fits in cc)
    part true fits (inr first) = (first-at moves p m place.0 taken first.0, fits)
    part false fits (inl empty) = ((p, place.0, sym taken), inl empty)
    part false fits (inr first) = first-judged g moves m e error fits (first-at moves p m place.0 taken first.0) first.1

pub unfit-move : {S M : Type 0} (g : Rules S M) (retired : Bool) (moves : List M) (text e : List ℕ) (p : ℕ) → (p < length moves) × HoldsAt (λ n. g.move_text n ≡ text) moves p → IsWrongFor retired e → MayFollow g moves p e
    → IsWrongRetired g retired moves text e
unfit-move {S} {M} g retired moves text e p place wrong may =
    let m = element-at moves p place.0 in
    (m.0, (p, place.0, m.1), subst (λ (n : M). g.move_text n ≡ text) m.1 (place.1 m.0), stands m.0 (sym m.1) may, wrong)
  where
    stands : (m : M) → m ≡ slice_index_or moves p m → (e ≡ []) ⊎ ((p ≤ 0) × ¬ (DeniesOne g moves e)) → (e ≡ []) ⊎ ((slice_get moves 0 ≡ Some m) × ¬ (DeniesOne g moves e))
    stands m taken (inl empty) = inl empty
    stands m taken (inr first) = inr (first-at moves p m place.0 taken first.0, first.1)

pub later-move : {S M : Type 0} (g : Rules S M) (moves : List M) (text e : List ℕ) (p : ℕ) → AllPairs (λ m n. m ≢ n) moves → p < length moves → HoldsAt (λ m. g.move_text m ≡ text) moves p → 0 < p → e ≢ [] → IsWrongError g moves text e
later-move {S} {M} g moves text e p apart within named later some =
    let m = element-at moves p within in (
      m.0,
      (p, within, m.1),
      subst (λ (n : M). g.move_text n ≡ text) m.1 (named m.0),
      inl (some, λ first. apart 0 p m.0 later within (get_or_from_slice_get moves 0 m.0 m.0 first ∙ sym m.1)),
    )

pub denied-move : {S M : Type 0} (g : Rules S M) (moves : List M) (text e : List ℕ) (p : ℕ) → p < length moves → HoldsAt (λ m. g.move_text m ≡ text) moves p → DeniesOne g moves e → IsWrongError g moves text e
denied-move {S} {M} g moves text e p within named denies =
    let m = element-at moves p within in
    (m.0, (p, within, m.1), subst (λ (n : M). g.move_text n ≡ text) m.1 (named m.0), inr denies)

-- ---- A right move is not a wrong one

-- one text begins with this byte, the other does not
first-apart : (b : ℕ) (xs ys : List ℕ) → xs ≡ ys → eqb (slice_index_or xs 0 0) b ≡ false → eqb (slice_index_or ys 0 0) b ≡ true → ⊥
first-apart b xs ys same one other = let w : eqb (slice_index_or xs 0 0) b ≡ eqb (slice_index_or ys 0 0) b = ap (λ l. eqb (slice_index_or l 0 0) b) same in absurd cc

-- the first bytes of two errors: that of an illegal answer, and that of a retired role
abbrev letter-i : ℕ
letter-i = 73

abbrev letter-r : ℕ
letter-r = 82

illegal-judged : {S M : Type 0} (g : Rules S M) → IsLawful g → (moves : List M) (n : M) (e : List ℕ) (why : Substitution) → g.IsMove n → Contains moves n → e ≡ error_text why → MayStand g moves why → e ≡ error_text (Illegal (g.move_text n)) → ⊥
illegal-judged g laws moves n e TimeOut is among reason may denies = first-apart letter-i (error_text TimeOut) (error_text (Illegal (g.move_text n))) (sym reason ∙ denies) refl refl
illegal-judged g laws moves n e ConnectionError is among reason may denies = first-apart letter-i (error_text ConnectionError) (error_text (Illegal (g.move_text n))) (sym reason ∙ denies) refl refl
illegal-judged g laws moves n e Unreadable is among reason may denies = laws.no_question n is (sym (illegal_text (codes "?") (g.move_text n) (sym reason ∙ denies)))
illegal-judged g laws moves n e Retired is among reason may denies = may
illegal-judged g laws moves n e (Illegal x) is among reason may denies = named-none g moves x n may.2 among (sym (illegal_text x (g.move_text n) (sym reason ∙ denies)))

pub part-move : {S M : Type 0} (g : Rules S M) (retired : Bool) (moves : List M) (m : M) (e : List ℕ) → IsPart g retired moves m e → Contains moves m
part-move g true moves m e part = first-contains moves m part.0
part-move g false moves m e part = part.0

pub part-not_wrong : {S M : Type 0} (g : Rules S M) → IsLawful g → (s : S) (r : ℕ) (retired : Bool) (m : M) (text e : List ℕ) → g.IsState s → r < g.roles → g.move_text m ≡ text → IsPart g retired (g.legal s r) m e → ¬ (IsWrongError g (g.legal s r) text e)
part-not_wrong {S} {M} g laws s r retired m text e is_state role named part wrong =
    let of_game = Contains-move g laws s r m is_state role (part-move g retired (g.legal s r) m e part) in
    let other = Contains-move g laws s r wrong.0 is_state role wrong.1 in
    let same : wrong.0 ≡ m = laws.one_move_for_each_text wrong.0 m other of_game (wrong.2 ∙ sym named) in
    by retired (subst (λ (n : M). ((e ≢ []) × (slice_get (g.legal s r) 0 ≢ Some n)) ⊎ DeniesOne g (g.legal s r) e) same wrong.3) part
  where
    judged : ((e ≢ []) × (slice_get (g.legal s r) 0 ≢ Some m)) ⊎ DeniesOne g (g.legal s r) e
        → (e ≡ []) ⊎ ((slice_get (g.legal s r) 0 ≡ Some m) × ((why : Substitution) × (e ≡ error_text why) × MayStand g (g.legal s r) why)) → ⊥
    judged (inl apart) (inl empty) = apart.0 empty
    judged (inl apart) (inr stands) = apart.1 stands.0
    judged (inr denies) (inl empty) = let w : [] ≡ error_text (Illegal (g.move_text denies.0)) = sym empty ∙ denies.2 in absurd cc
    judged (inr denies) (inr stands) =
        illegal-judged g laws (g.legal s r) denies.0 e stands.1.0 (Contains-move g laws s r denies.0 is_state role denies.1) denies.1 stands.1.1 stands.1.2 denies.2

    by : (b : Bool) → ((e ≢ []) × (slice_get (g.legal s r) 0 ≢ Some m)) ⊎ DeniesOne g (g.legal s r) e → IsPart g b (g.legal s r) m e → ⊥
    by true (inl apart) stands = apart.1 stands.0
    by true (inr denies) stands = first-apart letter-i (error_text Retired) (error_text (Illegal (g.move_text denies.0))) (sym stands.1 ∙ denies.2) refl refl
    by false wrong stands = judged wrong stands.1

retired-judged : {S M : Type 0} (g : Rules S M) (moves : List M) (why : Substitution) → MayStand g moves why → retired_text ≡ error_text why → ⊥
retired-judged g moves TimeOut may is = first-apart letter-r (error_text TimeOut) (error_text Retired) (sym is) refl refl
retired-judged g moves ConnectionError may is = first-apart letter-r (error_text ConnectionError) (error_text Retired) (sym is) refl refl
retired-judged g moves Unreadable may is = first-apart letter-r (error_text Unreadable) (error_text Retired) (sym is) refl refl
retired-judged g moves Retired may is = may
retired-judged g moves (Illegal x) may is = first-apart letter-i (error_text Retired) (error_text (Illegal x)) is refl refl

-- its error says whether the role is retired
pub part-not_unfit : {S M : Type 0} (g : Rules S M) (retired : Bool) (moves : List M) (m : M) (text e : List ℕ) → IsPart g retired moves m e → ¬ (IsWrongRetired g retired moves text e)
part-not_unfit {S} {M} g retired moves m text e part wrong = by retired part wrong.4
  where
    judged : e ≡ retired_text → (e ≡ []) ⊎ ((slice_get moves 0 ≡ Some m) × ((why : Substitution) × (e ≡ error_text why) × MayStand g moves why)) → ⊥
    judged is (inl empty) = let w : [] ≡ retired_text = sym empty ∙ is in absurd cc
    judged is (inr stands) = retired-judged g moves stands.1.0 stands.1.2 (sym is ∙ stands.1.1)

    by : (b : Bool) → IsPart g b moves m e → IsWrongFor b e → ⊥
    by true stands wrong = wrong stands.1
    by false stands wrong = judged wrong stands.1

-- ---- The joint move of a turn

pub moves-at : {S M : Type 0} (g : Rules S M) (s : S) (lists : List (List M)) (r : ℕ) (x : List M) → AreLegalMoves g s lists → r < g.roles → x ≡ slice_index_or lists r x → x ≡ g.legal s r
moves-at g s lists r x are within at = at ∙ are.legal r x within

pub record SoFar {S M : Type 0} (g : Rules S M) (retired : ℕ → Bool) (s : S) (moves errors : List (List ℕ)) (r : ℕ) (joint : List M) : Type 0 where
  pub wide : length joint ≡ r
  pub texts : map g.move_text joint ≡ take r moves
  pub parts : (q : ℕ) (d : M) → q < r → IsPart g (retired q) (g.legal s q) (slice_index_or joint q d) (text_at errors q)
  pub right : (q : ℕ) → q < r → IsRightMove g (retired q) (g.legal s q) (text_at moves q) (text_at errors q)

-- one more role
pub SoFar-more : {S M : Type 0} (g : Rules S M) (retired : ℕ → Bool) (s : S) (moves errors : List (List ℕ)) (r : ℕ) (joint : List M) (m : M) (text error : List ℕ) → SoFar g retired s moves errors r joint → r < length moves → text ≡ text_at moves r
    → error ≡ text_at errors r → g.move_text m ≡ text → IsPart g (retired r) (g.legal s r) m error → SoFar g retired s moves errors (r + 1) (joint ++ m ∷ [])
SoFar-more {S} {M} g retired s moves errors r joint m text error far within text_is error_is named part =
    let here : IsPart g (retired r) (g.legal s r) m (text_at errors r) = subst (λ (e : List ℕ). IsPart g (retired r) (g.legal s r) m e) error_is part in
    record {
      wide = length_push joint m ∙ ap (λ n. n + 1) far.wide;
      texts = map_push g.move_text joint m ∙ ap (λ ts. ts ++ g.move_text m ∷ []) far.texts ∙ ap (λ t. take r moves ++ t ∷ []) (named ∙ text_is) ∙ sym (take_more moves r [] within);
      parts = λ q d lt.
          elim (eq-or-lt_of_le {n = q} {m = r} (omega (arith, lt))) [
            | inl last ↦
                subst (λ (k : ℕ). IsPart g (retired k) (g.legal s k) (slice_index_or (joint ++ m ∷ []) k d) (text_at errors k)) (sym last)
                (subst (λ (n : M). IsPart g (retired r) (g.legal s r) n (text_at errors r)) (sym (get_or_push joint m d r far.wide)) here)
            | inr below ↦
                let inside : q < length joint = omega (arith, far.wide) in
                subst (λ (n : M). IsPart g (retired q) (g.legal s q) n (text_at errors q)) (sym (get_or_append_left joint (m ∷ []) d q inside)) (far.parts q d below)
          ];
      right = λ q lt.
          elim (eq-or-lt_of_le {n = q} {m = r} (omega (arith, lt))) [
            | inl last ↦ subst (λ (k : ℕ). IsRightMove g (retired k) (g.legal s k) (text_at moves k) (text_at errors k)) (sym last) (m, named ∙ text_is, here)
            | inr below ↦ far.right q below
          ];
    }

pub SoFar-all : {S M : Type 0} (g : Rules S M) (retired : ℕ → Bool) (s : S) (moves errors : List (List ℕ)) (r : ℕ) (joint : List M) → SoFar g retired s moves errors r joint → GoesOn g retired s → r ≡ g.roles → length moves ≡ g.roles
    → IsRightJoint g retired s moves errors joint
SoFar-all g retired s moves errors r joint far goes_on all wide =
    record {
      goes_on = goes_on;
      joint = record { width = far.wide ∙ all; legal = λ q d lt. part-move g (retired q) (g.legal s q) _ _ (far.parts q d (omega arith)) };
      texts = far.texts ∙ take_all r moves (omega arith);
      parts = λ q d lt. far.parts q d (omega arith);
    }
