-- The waiting matches: the first one that can begin, the position of a match that waits again, and appending a match.
use Rattle.std.proofs.Common.{◌≡◌, ◌++◌, [], ◌∷◌, ℕ, ◌+◌, ◌<◌, ◌≤◌, min, Bool, true, false, cond, List, Option, Some, None, All, HoldsAt, IfSome, IfNone, MatchOption, get_or, slice_get, take, length, deque_len, sym, ◌∙◌, ap, subst, inl, inr, arith, length-take, get_or-take, lt-ltb, le-ltb, unwrap_or}
use Rattle.std.specs.Prelude.{◌↔◌, ◌==◌, is_some, nat_lt, not, position}
use Rattle.std.specs.List.{AllWithin}
use Rattle.std.proofs.lemmas.Bool.{false≢true, not-true, not-false, eqb-false, cases_lt}
use Rattle.std.proofs.lemmas.Option.{slice_get_cases, slice_get_within, get_or_from_slice_get}
use Rattle.std.proofs.lemmas.List.{get_or_append_left, get_or_push}
use Rattle.std.proofs.lemmas.List.Elements.{All-from_all_within, All-get_or}
use Rattle.std.proofs.lemmas.List.Folds.{length-prefix_len}
use Rattle.match_season.specs.Queues.{IsBusy, are_free, turn_of}
use Rattle.match_season.specs.declared.queue.WaitingMatch.{WaitingMatch}
use Rattle.match_season.specs.declared.queue.MatchQueue.{MatchQueue}

abbrev pub IsFree : MatchQueue → WaitingMatch → Type 0
IsFree queue waiting_match = are_free queue.sitting.items queue.concurrent waiting_match.players.items ≡ true

-- the result of `position` with this test
abbrev pub IsFirstFree : MatchQueue → Option ℕ → Type 0
IsFirstFree queue found = MatchOption found (AllWithin (IsBusy queue) queue.waiting.items 0 (length queue.waiting.items)) (λ at. (at < length queue.waiting.items) × HoldsAt (IsFree queue) queue.waiting.items at × AllWithin (IsBusy queue) queue.waiting.items 0 at)

all-before : (P : WaitingMatch → Type 0) (waiting : List WaitingMatch) (at : ℕ) → AllWithin P waiting 0 at → All P (take at waiting)
all-before P waiting at before = λ k d inside.
    let cut : length (take at waiting) ≡ min at (length waiting) = length-take at waiting in
    let below : k < at = omega (arith, cut, inside) in
    subst P (sym (get_or-take at waiting k d below)) (before k d (omega arith) below)

pub first_free-some : (queue : MatchQueue) (found : Option ℕ) → IsFirstFree queue found
    → IfSome found (λ at. (first : WaitingMatch) × (slice_get queue.waiting.items at ≡ Some first) × (are_free queue.sitting.items queue.concurrent first.players.items ≡ true) × All (IsBusy queue) (take at queue.waiting.items))
first_free-some queue None busy = tt
first_free-some queue (Some at) first =
    let waiting = queue.waiting.items in
    elim (slice_get_cases waiting at).1 [
      | inl it ↦ (it.0, it.2, subst (IsFree queue) it.3 (first.1 it.0), all-before (IsBusy queue) waiting at first.2)
      | inr past ↦ absurd (omega (arith, first.0, past.0))
    ]

pub first_free-none : (queue : MatchQueue) (found : Option ℕ) → IsFirstFree queue found → IfNone found (All (IsBusy queue) queue.waiting.items)
first_free-none queue None busy = All-from_all_within (IsBusy queue) queue.waiting.items busy
first_free-none queue (Some at) first = tt

not_all_busy : (queue : MatchQueue) (at : ℕ) (first : WaitingMatch) → slice_get queue.waiting.items at ≡ Some first → are_free queue.sitting.items queue.concurrent first.players.items ≡ true → All (IsBusy queue) queue.waiting.items → ⊥
not_all_busy queue at first here free all =
    let xs = queue.waiting.items in
    let busy : IsBusy queue first = subst (IsBusy queue) (get_or_from_slice_get xs at first first here) (All-get_or (IsBusy queue) xs at first (slice_get_within xs at first here) all) in
    false≢true (sym busy ∙ free)

pub none-begins : (queue : MatchQueue) (found : Option ℕ) (waits result : Bool) → waits ≡ (deque_len queue.waiting == 0) → waits ≡ false → is_some found ≡ not result
    → IfSome found (λ at. (first : WaitingMatch) × (slice_get queue.waiting.items at ≡ Some first) × (are_free queue.sitting.items queue.concurrent first.players.items ≡ true) × All (IsBusy queue) (take at queue.waiting.items))
    → IfNone found (All (IsBusy queue) queue.waiting.items)
    → (result ≡ true) ↔ ((0 < deque_len queue.waiting) × All (IsBusy queue) queue.waiting.items)
none-begins queue None waits result is some_wait says _ none =
    let some : 0 < deque_len queue.waiting = elim (cases_lt 0 (deque_len queue.waiting)) [ inl lt ↦ lt | inr le ↦ absurd (eqb-false (deque_len queue.waiting) 0 (sym is ∙ some_wait) (omega (arith, le))) ] in
    (λ _. (some, none), λ _. not-false result (sym says))
none-begins queue (Some at) waits result is some_wait says found _ =
    (λ yes. absurd (false≢true (sym (not-true result (sym says)) ∙ yes)), λ both. absurd (not_all_busy queue at found.0 found.1 found.2 both.1))

pub turn-within : (place : ℕ) (waiting : List WaitingMatch) → turn_of waiting place ≤ length waiting
turn-within place waiting =
    let turn = turn_of waiting place in
    let whole : length (take turn waiting) ≡ turn = length-prefix_len (λ (it : WaitingMatch). not (nat_lt place it.place)) waiting in
    let cut : length (take turn waiting) ≡ min turn (length waiting) = length-take turn waiting in
    omega (arith, whole, cut)

pub found-turn : (place count result : ℕ) (waiting : List WaitingMatch) (found : Option ℕ) → found ≡ position (λ it. nat_lt place it.place) waiting → count ≡ length waiting → result ≡ unwrap_or found count → result ≡ turn_of waiting place
found-turn place count result waiting found is whole reads =
    let turn = turn_of waiting place in
    let read = λ (it : Bool). unwrap_or (cond it (Some turn) None) count in
    let at : result ≡ read (nat_lt turn (length waiting)) = reads ∙ ap (λ (it : Option ℕ). unwrap_or it count) is in
    elim (cases_lt turn (length waiting)) [
      | inl lt ↦ at ∙ ap read (lt-ltb turn (length waiting) lt)
      | inr le ↦
          let all : count ≡ turn = omega (arith, whole, le, turn-within place waiting) in
          at ∙ (ap read (le-ltb turn (length waiting) le) ∙ all)
    ]

pub in-order-more : (waiting new : List WaitingMatch) (waiting_match : WaitingMatch) (place : ℕ) → new ≡ waiting ++ waiting_match ∷ [] → length waiting ≡ place → waiting_match.place ≡ place → ((k : ℕ) (d : WaitingMatch) → k < place → (get_or waiting k d).place ≡ k)
    → (k : ℕ) (d : WaitingMatch) → k < place + 1 → (get_or new k d).place ≡ k
in-order-more waiting new waiting_match place is each here before k d lt =
    let at : (get_or new k d).place ≡ (get_or (waiting ++ waiting_match ∷ []) k d).place = ap (λ (xs : List WaitingMatch). (get_or xs k d).place) is in
    elim (cases_lt k place) [
      | inl below ↦ at ∙ (ap (λ (it : WaitingMatch). it.place) (get_or_append_left waiting (waiting_match ∷ []) d k (omega (arith, below, each))) ∙ before k d below)
      | inr past ↦
          let same : k ≡ place = omega (arith, past, lt) in
          at ∙ (ap (λ (it : WaitingMatch). it.place) (get_or_push waiting waiting_match d k (each ∙ sym same)) ∙ (here ∙ sym same))
    ]
