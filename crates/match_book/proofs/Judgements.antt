-- Properties of judgements.
use Rattle.std.proofs.Common.{◌≡◌, ◌≢◌, ℕ, zero, suc, ◌<◌, Bool, true, false, Option, Some, None, List, [], ◌∷◌, length, slice_index_or, refl, arith, ap, sym, subst, inl, inr, Contains}
use Rattle.std.proofs.lemmas.Slice.Eq.{bytes_eq-Decides}
use Rattle.std.specs.Prelude.{IsSome, slice_get, bytes_eq, if◌then◌else◌, ◌==◌}
use Rattle.game_core.specs.Play.{Rules, IsLawful}
use Rattle.match_book.specs.AnswerReading.{answer_reading}
use Rattle.match_book.specs.Laws.{ReadingsAreFolded}
use Rattle.match_book.specs.Judgement.{move_named, error_text, substitute, taken_or_substituted, judged_reading, judgement, IsJudged, MayStand}
use Rattle.match_book.specs.declared.judgement.Judgement.{Judgement}
use Rattle.match_book.specs.declared.judgement.Substitution.{Substitution}
use Rattle.match_book.specs.declared.judgement.Substitution.TheVariants.{TimeOut, ConnectionError, Unreadable, Illegal}
use Rattle.desk_calls.specs.declared.answer.Answer.{Answer}
use Rattle.desk_calls.specs.declared.answer.Answer.TheVariants.{Text, Silent, Broken}
use Rattle.match_book.proofs.NamedMoves.{same_text}

none_here : {M : Type 0} (b : Bool) (m : M) (o : Option M) → b ≡ true → (if b then Some m else o) ≡ None → ⊥
none_here true m o is e = absurd cc
none_here false m o is e = absurd cc

none_later : {M : Type 0} (b : Bool) (m : M) (o : Option M) → (if b then Some m else o) ≡ None → o ≡ None
none_later true m o e = absurd cc
none_later false m o e = e

pub move_named-none : {S M : Type 0} (g : Rules S M) (moves : List M) (x : List ℕ) → move_named g moves x ≡ None → (k : ℕ) (d : M) → k < length moves → g.move_text (slice_index_or moves k d) ≢ x
move_named-none g [] x e k d lt = absurd (omega arith)
move_named-none g (m ∷ ms) x e zero d lt = λ w. none_here (bytes_eq (g.move_text m) x) m (move_named g ms x) (rw w (same_text x)) e
move_named-none g (m ∷ ms) x e (suc k) d lt = move_named-none g ms x (none_later (bytes_eq (g.move_text m) x) m (move_named g ms x) e) k d (omega arith)

move_named-some : {S M : Type 0} (g : Rules S M) (moves : List M) (x : List ℕ) (m : M) → move_named g moves x ≡ Some m → Contains moves m
move_named-some g [] x m e = absurd cc
move_named-some g (y ∷ ys) x m e = step (bytes_eq (g.move_text y) x) e (move_named-some g ys x m)
  where
    step : (b : Bool) → (if b then Some y else move_named g ys x) ≡ Some m → (move_named g ys x ≡ Some m → Contains ys m) → Contains (y ∷ ys) m
    step true e later = let w : y ≡ m = cc in (0, omega arith, w)
    step false e later = let found = later e in (suc found.0, omega (arith, found.1), found.2)

pub move_named-text : {S M : Type 0} (g : Rules S M) (moves : List M) (x : List ℕ) (m : M) → move_named g moves x ≡ Some m → g.move_text m ≡ x
move_named-text g [] x m e = absurd cc
move_named-text {S} {M} g (y ∷ ys) x m e = step (bytes_eq (g.move_text y) x) refl (move_named g ys x) (move_named-text g ys x m) e
  where
    step : (b : Bool) → bytes_eq (g.move_text y) x ≡ b → (o : Option M) → (o ≡ Some m → g.move_text m ≡ x) → (if b then Some y else o) ≡ Some m → g.move_text m ≡ x
    step true same o later e = let w : y ≡ m = cc in subst (λ (z : M). g.move_text z ≡ x) w ((bytes_eq-Decides (g.move_text y) x).0 same)
    step false other o later e = later e

pub substitute-is : {M : Type 0} (moves : List M) (why : Substitution) (j : Judgement M) → substitute moves why ≡ Some j → (slice_get moves 0 ≡ Some j.taken) × (j.error ≡ error_text why)
substitute-is [] why j is = absurd cc
substitute-is {M} (m ∷ ms) why j is = let w : ◌≡◌ {A = Judgement M} (record { taken = m; error = error_text why }) j = cc in (ap (λ (x : Judgement M). Some x.taken) w, sym (ap (λ (x : Judgement M). x.error) w))

pub first-contains : {M : Type 0} (moves : List M) (m : M) → slice_get moves 0 ≡ Some m → Contains moves m
first-contains [] m e = absurd cc
first-contains (x ∷ xs) m e = let w : x ≡ m = cc in (0, omega arith, w)

substitute-judged : {S M : Type 0} (g : Rules S M) (moves : List M) (why : Substitution) (j : Judgement M) → MayStand g moves why → substitute moves why ≡ Some j → IsJudged g moves j.taken j.error
substitute-judged g moves why j may is =
    let parts = substitute-is moves why j is in
    (first-contains moves j.taken parts.0, inr (parts.0, (why, parts.1, may)))

module _ {S M : Type 0} (g : Rules S M) (folded : ReadingsAreFolded) where
  named-judged : (moves : List M) (t x : List ℕ) (j : Judgement M) (n : Option M) → answer_reading t ≡ Some x → move_named g moves x ≡ n → taken_or_substituted moves x n ≡ Some j → IsJudged g moves j.taken j.error
  named-judged moves t x j None read none is = let fits = folded t x read in substitute-judged g moves (Illegal x) j (fits.0, fits.1, move_named-none g moves x none) is
  named-judged moves t x j (Some m) read found is =
      let w : ◌≡◌ {A = Judgement M} (record { taken = m; error = [] }) j = cc in
      (subst (λ (y : M). Contains moves y) (ap (λ (y : Judgement M). y.taken) w) (move_named-some g moves x m found), inl (sym (ap (λ (y : Judgement M). y.error) w)))

  text-judged : (moves : List M) (t : List ℕ) (j : Judgement M) (o : Option (List ℕ)) → answer_reading t ≡ o → judged_reading g moves o ≡ Some j → IsJudged g moves j.taken j.error
  text-judged moves t j None read is = substitute-judged g moves Unreadable j tt is
  text-judged moves t j (Some x) read is = named-judged moves t x j (move_named g moves x) read refl is

  pub judgement-judged : (s : S) (r : ℕ) (a : Answer) (j : Judgement M) → judgement g s r a ≡ Some j → IsJudged g (g.legal s r) j.taken j.error
  unfolding judgement
  judgement-judged s r (Text t) j is = text-judged (g.legal s r) t j (answer_reading t) refl is
  judgement-judged s r Silent j is = substitute-judged g (g.legal s r) TimeOut j tt is
  judgement-judged s r Broken j is = substitute-judged g (g.legal s r) ConnectionError j tt is

pub substitute-some : {M : Type 0} (moves : List M) (why : Substitution) → (length moves == 0) ≡ false → IsSome (substitute moves why)
substitute-some [] why some = absurd cc
substitute-some (m ∷ ms) why some = refl

taken_or_substituted-some : {M : Type 0} (moves : List M) (x : List ℕ) (n : Option M) → (length moves == 0) ≡ false → IsSome (taken_or_substituted moves x n)
taken_or_substituted-some moves x None some = substitute-some moves (Illegal x) some
taken_or_substituted-some moves x (Some m) some = refl

judged_reading-some : {S M : Type 0} (g : Rules S M) (moves : List M) (o : Option (List ℕ)) → (length moves == 0) ≡ false → IsSome (judged_reading g moves o)
judged_reading-some g moves None some = substitute-some moves Unreadable some
judged_reading-some g moves (Some x) some = taken_or_substituted-some moves x (move_named g moves x) some

pub judgement-some : {S M : Type 0} (g : Rules S M) (s : S) (r : ℕ) (a : Answer) → (length (g.legal s r) == 0) ≡ false → IsSome (judgement g s r a)
unfolding judgement
judgement-some g s r (Text t) some = judged_reading-some g (g.legal s r) (answer_reading t) some
judgement-some g s r Silent some = substitute-some (g.legal s r) TimeOut some
judgement-some g s r Broken some = substitute-some (g.legal s r) ConnectionError some

pub Contains-move : {S M : Type 0} (g : Rules S M) → IsLawful g → (s : S) (r : ℕ) (m : M) → g.IsState s → r < g.roles → Contains (g.legal s r) m → g.IsMove m
Contains-move {S} {M} g laws s r m is lt among = subst (λ (x : M). g.IsMove x) among.2 (laws.legal_are_moves s r is lt among.0 m among.1)
