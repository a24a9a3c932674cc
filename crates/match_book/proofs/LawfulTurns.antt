-- Properties of lawful turns.
use Rattle.std.proofs.Common.{◌≡◌, Bool, false, ℕ, zero, suc, ◌*◌, ◌<◌, ◌≤◌, List, [], ◌∷◌, ◌++◌, length, take, slice_index_or, refl, arith, ap, sym, ◌∙◌, subst, inl, inr, length-append, add-one}
use Rattle.std.proofs.lemmas.List.{map-append, take-append-le, take_all, take_more, get_or_append_left}
use Rattle.std.proofs.lemmas.List.Sums.{count_by-le-length, sum_by-le}
use Rattle.std.proofs.lemmas.Option.{slice_get_read, slice_get_within, get_or_from_slice_get}
use Rattle.std.proofs.Math.Seq.{take-append_seam, get_or-append_seam}
use Rattle.std.specs.Prelude.{All, count_by, map, slice_get, Some, None, ◌-◌}
use Rattle.game_core.specs.Play.{Rules, IsLawful, IsJoint, play_from, play, max_roles}
use Rattle.match_book.specs.Judgement.{IsJudged, IsPart}
use Rattle.match_book.proofs.StruckTurns.{retired_by-never, all_retired-never}
use Rattle.match_book.specs.MatchValue.{state_after, substitutions, move_at, error_at, joint_moves, is_error}
use Rattle.match_book.specs.Due.{last_move_texts}
use Rattle.match_book.specs.Lawful.{IsLawfulTurn, AreLawful}
use Rattle.match_book.specs.Laws.{TurnsLeadToStates, TurnsHaveMoves, OneMoreTurn}
use Rattle.match_book.specs.declared.turn.Turn.{Turn}
use Rattle.match_book.proofs.RoleTests.{below_or_at}
use Rattle.match_book.proofs.Judgements.{Contains-move}

play_from-push : {S M : Type 0} (g : Rules S M) (s : S) (turns : List (List M)) (joint : List M) → play_from g s (turns ++ joint ∷ []) ≡ g.next (play_from g s turns) joint
play_from-push g s [] joint = refl
play_from-push g s (x ∷ xs) joint = play_from-push g (g.next s x) xs joint

pub state_after-push : {S M : Type 0} (g : Rules S M) (turns : List (Turn M)) (t : Turn M) → state_after g (turns ++ t ∷ []) ≡ g.next (state_after g turns) t.moves
state_after-push g turns t = ap (play g) (map-append (λ u. u.moves) turns (t ∷ [])) ∙ play_from-push g g.initial (joint_moves turns) t.moves

pub AreLawful-push : {S M : Type 0} (g : Rules S M) (strikes : ℕ) (turns : List (Turn M)) (t : Turn M) → AreLawful g strikes turns → IsLawfulTurn g strikes turns t → AreLawful g strikes (turns ++ t ∷ [])
AreLawful-push {S} {M} g strikes turns t lawful turn k d lt =
    elim (below_or_at k (length turns) (omega (arith, length-append turns (t ∷ [])))) [
      | inl last ↦
          subst (λ (n : ℕ). IsLawfulTurn g strikes (take n (turns ++ t ∷ [])) (slice_index_or (turns ++ t ∷ []) n d)) (sym last)
          (subst (λ (x : List (Turn M)). IsLawfulTurn g strikes x (slice_index_or (turns ++ t ∷ []) (length turns) d)) (sym (take-append_seam turns (t ∷ [])))
          (subst (λ (x : Turn M). IsLawfulTurn g strikes turns x) (sym (get_or-append_seam turns t [] d)) turn))
      | inr below ↦
          subst (λ (x : List (Turn M)). IsLawfulTurn g strikes x (slice_index_or (turns ++ t ∷ []) k d)) (sym (take-append-le k turns (t ∷ []) (omega arith)))
          (subst (λ (x : Turn M). IsLawfulTurn g strikes (take k turns) x) (sym (get_or_append_left turns (t ∷ []) d k below)) (lawful k d below))
    ]

pub one_more_turn : {S M : Type 0} (g : Rules S M) → OneMoreTurn g
one_more_turn g strikes turns t lawful turn = (AreLawful-push g strikes turns t lawful turn, state_after-push g turns t)

prefix_is_state : {S M : Type 0} (g : Rules S M) → IsLawful g → {strikes : ℕ} → (turns : List (Turn M)) → AreLawful g strikes turns → (k : ℕ) (d : Turn M) → k ≤ length turns → g.IsState (state_after g (take k turns))
prefix_is_state g laws {strikes} turns lawful zero d le = laws.initial_is_state
prefix_is_state {S} {M} g laws {strikes} turns lawful (suc k) d le =
    let t = slice_index_or turns k d in
    let before = prefix_is_state g laws {strikes = strikes} turns lawful k d (omega arith) in
    let more : take (suc k) turns ≡ take k turns ++ t ∷ [] = subst (λ (n : ℕ). take n turns ≡ take k turns ++ t ∷ []) (add-one k) (take_more turns k d (omega arith)) in
    let state : state_after g (take (suc k) turns) ≡ g.next (state_after g (take k turns)) t.moves = ap (state_after g) more ∙ state_after-push g (take k turns) t in
    subst (λ (s : S). g.IsState s) (sym state) (laws.next_is_state (state_after g (take k turns)) t.moves before (lawful k d (omega arith)).joint)

pub prefix-is_state : {S M : Type 0} (g : Rules S M) → IsLawful g → {strikes : ℕ} → (turns : List (Turn M)) → AreLawful g strikes turns → (k : ℕ) → k ≤ length turns → g.IsState (state_after g (take k turns))
prefix-is_state g laws {strikes} [] lawful zero le = laws.initial_is_state
prefix-is_state g laws {strikes} [] lawful (suc k) le = laws.initial_is_state
prefix-is_state g laws {strikes} (t ∷ ts) lawful k le = prefix_is_state g laws {strikes = strikes} (t ∷ ts) lawful k t le

pub state_after-is_state : {S M : Type 0} (g : Rules S M) → IsLawful g → {strikes : ℕ} → (turns : List (Turn M)) → AreLawful g strikes turns → g.IsState (state_after g turns)
state_after-is_state {S} {M} g laws {strikes} turns lawful =
    subst (λ (x : List (Turn M)). g.IsState (state_after g x)) (take_all (length turns) turns (omega arith)) (prefix-is_state g laws {strikes = strikes} turns lawful (length turns) (omega arith))

pub turns_lead_to_states : {S M : Type 0} (g : Rules S M) → IsLawful g → TurnsLeadToStates g
turns_lead_to_states g laws strikes turns lawful = state_after-is_state g laws {strikes = strikes} turns lawful

pub turn-width : {S M : Type 0} (g : Rules S M) {strikes : ℕ} (turns : List (Turn M)) (k : ℕ) (t : Turn M) → AreLawful g strikes turns → k < length turns → t ≡ slice_index_or turns k t → (length t.moves ≡ g.roles) × (length t.errors ≡ g.roles)
turn-width {S} {M} g {strikes} turns k t lawful lt read =
    let turn = lawful k t lt in
    subst (λ (x : Turn M). (length x.moves ≡ g.roles) × (length x.errors ≡ g.roles)) (sym read) (turn.joint.width, turn.one_error)

pub turns_have_moves : {S M : Type 0} (g : Rules S M) → IsLawful g → TurnsHaveMoves g
turns_have_moves {S} {M} g laws strikes turns lawful k t lt i d within =
    let turn = lawful k t lt in
    let state = prefix_is_state g laws {strikes = strikes} turns lawful k t (omega arith) in
    let role : i < g.roles = omega (arith, turn.joint.width) in
    Contains-move g laws (state_after g (take k turns)) i (slice_index_or (slice_index_or turns k t).moves i d) state role (turn.joint.legal i d role)

pub turn-moves : {S M : Type 0} (g : Rules S M) → IsLawful g → {strikes : ℕ} (turns : List (Turn M)) (k : ℕ) (t : Turn M) → AreLawful g strikes turns → k < length turns → t ≡ slice_index_or turns k t → All (λ m. g.IsMove m) t.moves
turn-moves {S} {M} g laws {strikes} turns k t lawful lt read = subst (λ (x : Turn M). All (λ m. g.IsMove m) x.moves) (sym read) (turns_have_moves g laws strikes turns lawful k t lt)

pub turn_errors-few : {S M : Type 0} (g : Rules S M) → IsLawful g → {strikes : ℕ} (before : List (Turn M)) (t : Turn M) → IsLawfulTurn g strikes before t → count_by is_error t.errors ≤ max_roles
turn_errors-few g laws {strikes} before t turn =
    let here = count_by-le-length is_error t.errors in
    let wide = turn.one_error in
    let few = laws.few_roles in
    omega arith

pub substitutions-few : {S M : Type 0} (g : Rules S M) → IsLawful g → {strikes : ℕ} (turns : List (Turn M)) → AreLawful g strikes turns → substitutions turns ≤ length turns * max_roles
substitutions-few g laws {strikes} turns lawful =
    sum_by-le (λ u. count_by is_error u.errors) max_roles turns (λ k d lt. turn_errors-few g laws {strikes = strikes} _ _ (lawful k d lt))

pub All-get : {A : Type 0} (P : A → Type 0) (xs : List A) (k : ℕ) (x : A) → All P xs → slice_get xs k ≡ Some x → P x
All-get P xs k x all at = subst P (get_or_from_slice_get xs k x x at) (all k x (slice_get_within xs k x at))

pub move_at-is : {M : Type 0} (turns : List (Turn M)) (k role : ℕ) (t : Turn M) (m : M) → k < length turns → t ≡ slice_index_or turns k t → slice_get t.moves role ≡ Some m → move_at turns k role ≡ Some m
move_at-is turns k role t m lt read at = rw (slice_get_read turns (length turns) k t refl lt read) at

pub error_at-is : {M : Type 0} (turns : List (Turn M)) (k role : ℕ) (t : Turn M) (e : List ℕ) → k < length turns → t ≡ slice_index_or turns k t → slice_get t.errors role ≡ Some e → error_at turns k role ≡ Some e
error_at-is turns k role t e lt read at = rw (slice_get_read turns (length turns) k t refl lt read) at

pub last_move_texts-is : {S M : Type 0} (g : Rules S M) (turns : List (Turn M)) (k : ℕ) (t : Turn M) → k < length turns → k ≡ length turns - 1 → t ≡ slice_index_or turns k t → Some (map g.move_text t.moves) ≡ last_move_texts g turns
last_move_texts-is g turns k t lt last read = rw (← last, slice_get_read turns (length turns) k t refl lt read) refl

pub last_move_texts-none : {S M : Type 0} (g : Rules S M) (turns : List (Turn M)) → length turns ≡ 0 → None ≡ last_move_texts g turns
last_move_texts-none g [] e = refl
last_move_texts-none g (t ∷ ts) e = absurd (omega arith)
