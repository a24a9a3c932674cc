-- The numbers of a match's players. Each player gets a number in turn, and new addresses are appended.
use Rattle.std.proofs.Common.{◌≡◌, ℕ, ◌+◌, ◌<◌, ◌≤◌, min, Bool, true, false, cond, Bor, List, [], ◌∷◌, ◌++◌, take, length, get_or, map, All, refl, sym, ◌∙◌, ap, subst, arith, inl, inr}
use Rattle.std.specs.Prelude.{◌==◌, if◌then◌else◌, not}
use Rattle.std.specs.List.{AllZip, list_any, position_or_len}
use Rattle.std.proofs.lemmas.Bool.{cases_eq, eq-eqb, ne_eqb, or_cases, or_parts, false≢true}
use Rattle.std.proofs.lemmas.List.{append_assoc, append-nil, length-append, map_more, take_more}
use Rattle.std.proofs.lemmas.List.Elements.{All-head, All-more, All-nil, All-tail, All-weaker}
use Rattle.std.proofs.lemmas.List.Sums.{sum_by-cons, sum_by_push}
use Rattle.std.proofs.lemmas.Slice.Zip.{all_zipped_more}
use Rattle.match_plans.specs.declared.addresses.PlayerAddress.{PlayerAddress}
use Rattle.match_plans.specs.declared.plan.MatchPlan.{MatchPlan}
use Rattle.match_season.specs.Queues.{Addresses, AreNumbersOf, Lengthens, ListsOnce, is_at, number_of, times}
use Rattle.match_season.specs.declared.queue.WaitingMatch.{WaitingMatch}

one-further : (passed : Bool) (m n len whole : ℕ) → whole ≡ 1 + len → cond passed (1 + m) 0 < whole → (m < len → n ≡ m) → ◌≡◌ {A = ℕ} (cond passed (1 + n) 0) (cond passed (1 + m) 0)
one-further true m n len whole is lt kept = ap (λ (k : ℕ). 1 + k) (kept (omega (arith, is, lt)))
one-further false m n len whole is lt kept = refl

place-kept : {T : Type 0} (test : T → Bool) (xs ys : List T) → position_or_len test xs < length xs → position_or_len test (xs ++ ys) ≡ position_or_len test xs
place-kept test [] ys lt = absurd (omega (arith, lt))
place-kept test (x ∷ xs) ys lt = one-further (not (test x)) (position_or_len test xs) (position_or_len test (xs ++ ys)) (length xs) (length (x ∷ xs)) (omega arith) lt (place-kept test xs ys)

pub lengthens-not : (addresses : Addresses) → Lengthens addresses addresses
lengthens-not addresses = ([], sym (append-nil addresses))

pub lengthens-trans : (a b c : Addresses) → Lengthens a b → Lengthens b c → Lengthens a c
lengthens-trans a b c first second = (first.0 ++ second.0, second.1 ∙ (ap (λ (it : Addresses). it ++ second.0) first.1 ∙ append_assoc a first.0 second.0))

pub lengthened : (has : Bool) (old new : Addresses) (address : Bor (List ℕ) × ℕ) → new ≡ (if has then old else old ++ address ∷ []) → Lengthens old new
lengthened true old new address is = ([], is ∙ sym (append-nil old))
lengthened false old new address is = (address ∷ [], is)

map-same : {X Y : Type 0} (f g : X → Y) (xs : List X) → All (λ x. f x ≡ g x) xs → map f xs ≡ map g xs
map-same f g [] all = refl
map-same {X} {Y} f g (x ∷ xs) all =
    let P : X → Type 0 = λ it. f it ≡ g it in
    ap (λ (y : Y). y ∷ map f xs) (All-head P x xs all) ∙ ap (λ (ys : List Y). g x ∷ ys) (map-same f g xs (All-tail P x xs all))

-- players keep their numbers when addresses are appended
pub numbers-kept : (old new : Addresses) (players : List PlayerAddress) (numbers : List ℕ) → Lengthens old new → AreNumbersOf old players numbers → AreNumbersOf new players numbers
numbers-kept old new players numbers (more, is) are =
    let P : PlayerAddress → Type 0 = λ it. number_of old it < length old in
    let keep : (it : PlayerAddress) → P it → number_of new it ≡ number_of old it = λ it lt. ap (λ (all : Addresses). number_of all it) is ∙ place-kept (is_at it) old more lt in
    let same = map-same (number_of new) (number_of old) players (All-weaker P (λ it. number_of new it ≡ number_of old it) keep players are.listed) in
    record {
      listed = All-weaker P (λ it. number_of new it < length new) (λ it lt. omega (arith, lt, keep it lt, ap length is, length-append old more)) players are.listed;
      once = λ number. are.once number ∙ ap (λ (all : List ℕ). min 1 (times all number)) (sym same);
    }

times-none : (numbers : List ℕ) (number : ℕ) → list_any (λ it. it == number) numbers ≡ false → times numbers number ≡ 0
times-none [] number none = refl
times-none (it ∷ rest) number none =
    let parts = or_parts (it == number) (list_any (λ (other : ℕ). other == number) rest) none in
    let step = sum_by-cons (λ (other : ℕ). cond (other == number) 1 0) it rest in
    let term : ◌≡◌ {A = ℕ} (cond (it == number) 1 0) 0 = ap (λ (b : Bool). cond b 1 0) parts.0 in
    omega (arith, step, term, times-none rest number parts.1)

times-some : (numbers : List ℕ) (number : ℕ) → list_any (λ it. it == number) numbers ≡ true → 1 ≤ times numbers number
times-some [] number has = absurd (false≢true has)
times-some (it ∷ rest) number has =
    let step = sum_by-cons (λ (other : ℕ). cond (other == number) 1 0) it rest in
    elim (or_cases (it == number) (list_any (λ (other : ℕ). other == number) rest) has) [
      | inl here ↦
          let term : ◌≡◌ {A = ℕ} (cond (it == number) 1 0) 1 = ap (λ (b : Bool). cond b 1 0) here in
          omega (arith, step, term)
      | inr later ↦ omega (arith, step, times-some rest number later)
    ]

listed-once : (old new all : List ℕ) (added : ℕ) → ListsOnce old new added → ((number : ℕ) → times old number ≡ min 1 (times all number)) → (number : ℕ) → times new number ≡ min 1 (times (all ++ added ∷ []) number)
listed-once old new all added (inl (has, kept)) before number =
    let more = sum_by_push (λ (it : ℕ). cond (it == number) 1 0) all added in
    let here = ap (λ (them : List ℕ). times them number) kept in
    elim (cases_eq added number) [
      | inl same ↦
          let term : ◌≡◌ {A = ℕ} (cond (added == number) 1 0) 1 = ap (λ (b : Bool). cond b 1 0) (eq-eqb added number same) in
          let some : 1 ≤ times old number = subst (λ (it : ℕ). 1 ≤ times old it) same (times-some old added has) in
          omega (arith, before number, more, term, some, here)
      | inr other ↦
          let term : ◌≡◌ {A = ℕ} (cond (added == number) 1 0) 0 = ap (λ (b : Bool). cond b 1 0) (ne_eqb added number other) in
          omega (arith, before number, more, term, here)
    ]
listed-once old new all added (inr (none, pushed)) before number =
    let more = sum_by_push (λ (it : ℕ). cond (it == number) 1 0) all added in
    let here = ap (λ (them : List ℕ). times them number) pushed ∙ sum_by_push (λ (it : ℕ). cond (it == number) 1 0) old added in
    elim (cases_eq added number) [
      | inl same ↦
          let term : ◌≡◌ {A = ℕ} (cond (added == number) 1 0) 1 = ap (λ (b : Bool). cond b 1 0) (eq-eqb added number same) in
          let zero : times old number ≡ 0 = subst (λ (it : ℕ). times old it ≡ 0) same (times-none old added none) in
          omega (arith, before number, more, term, zero, here)
      | inr other ↦
          let term : ◌≡◌ {A = ℕ} (cond (added == number) 1 0) 0 = ap (λ (b : Bool). cond b 1 0) (ne_eqb added number other) in
          omega (arith, before number, more, term, here)
    ]

pub numbers-none : (addresses : Addresses) (numbers : List ℕ) → numbers ≡ [] → AreNumbersOf addresses [] numbers
numbers-none addresses numbers is = record {
  listed = All-nil (λ (it : PlayerAddress). number_of addresses it < length addresses);
  once = λ number. ap (λ (them : List ℕ). times them number) is;
}

pub numbers-more : (addresses : Addresses) (players : List PlayerAddress) (at : ℕ) (d : PlayerAddress) (old new : List ℕ) (number : ℕ) → at < length players → number ≡ number_of addresses (get_or players at d) → number < length addresses
    → ListsOnce old new number → AreNumbersOf addresses (take at players) old → AreNumbersOf addresses (take (at + 1) players) new
numbers-more addresses players at d old new number within is listed lists before =
    let its = number_of addresses in
    record {
      listed = All-more (λ (it : PlayerAddress). its it < length addresses) players at d within before.listed (omega (arith, is, listed));
      once = λ other.
          listed-once old new (map its (take at players)) number lists before.once other
          ∙ ap (λ (all : List ℕ). min 1 (times all other)) (ap (λ (it : ℕ). map its (take at players) ++ it ∷ []) is ∙ sym (map_more its players at d within));
    }

pub all-kept : (old new : Addresses) (plans : List MatchPlan) (waiting : List WaitingMatch) → Lengthens old new → AllZip (λ plan waiting_match. AreNumbersOf old plan.players.items waiting_match.players.items) plans waiting
    → AllZip (λ plan waiting_match. AreNumbersOf new plan.players.items waiting_match.players.items) plans waiting
all-kept old new [] [] longer all = tt
all-kept old new [] (waiting_match ∷ waiting_matches) longer all = absurd all
all-kept old new (plan ∷ plans) [] longer all = absurd all
all-kept old new (plan ∷ plans) (waiting_match ∷ waiting_matches) longer all = (numbers-kept old new plan.players.items waiting_match.players.items longer all.0, all-kept old new plans waiting_matches longer all.1)

pub all-more : (old new : Addresses) (plans : List MatchPlan) (at : ℕ) (d : MatchPlan) (waiting all : List WaitingMatch) (waiting_match : WaitingMatch) → at < length plans → all ≡ waiting ++ waiting_match ∷ [] → Lengthens old new
    → AllZip (λ plan waiting_match. AreNumbersOf old plan.players.items waiting_match.players.items) (take at plans) waiting → AreNumbersOf new (get_or plans at d).players.items waiting_match.players.items
    → AllZip (λ plan waiting_match. AreNumbersOf new plan.players.items waiting_match.players.items) (take (at + 1) plans) all
all-more old new plans at d waiting all waiting_match within is longer before this =
    let R : MatchPlan → WaitingMatch → Type 0 = λ plan it. AreNumbersOf new plan.players.items it.players.items in
    let more = all_zipped_more R (take at plans) waiting (get_or plans at d) waiting_match (all-kept old new (take at plans) waiting longer before) this in
    subst (AllZip R (take (at + 1) plans)) (sym is) (subst (λ (them : List MatchPlan). AllZip R them (waiting ++ waiting_match ∷ [])) (sym (take_more plans at d within)) more)
