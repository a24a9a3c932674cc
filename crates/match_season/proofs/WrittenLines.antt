-- Appending to the output of a season.
use Rattle.std.proofs.Common.{◌≡◌, ◌++◌, [], ◌∷◌, ℕ, ◌+◌, ◌-◌, ◌<◌, ◌≤◌, ◌^◌, Bool, true, false, cond, List, Option, Result, set, length, get_or, refl, sym, ◌∙◌, ap, subst, arith, inl, inr, length-set}
use Rattle.std.specs.Prelude.{◌==◌, ◌&&◌, is_ok}
use Rattle.std.specs.List.{AllZip, concat, count_by}
use Rattle.std.specs.Io.KnownBytes.{Appends}
use Rattle.std.proofs.KnownBytes.{Appends-nil, Appends-trans}
use Rattle.std.proofs.lemmas.Bool.{and_parts, cases_eq, cases_lt, eq-eqb, ne_eqb, not-true, true≢false}
use Rattle.std.proofs.lemmas.List.{append_assoc, append-nil, get_or-set_same, get_or-set_other, get_or_default, get_or_past, length-append, set_past}
use Rattle.std.proofs.lemmas.List.Sums.{count_by-le-length, sum_by-append, sum_by-set}
use Rattle.match_plans.specs.declared.season_form.RecordOrder.{RecordOrder}
use Rattle.match_plans.specs.declared.season_form.RecordOrder.TheVariants.{OfSchedule}
use Rattle.match_season.specs.Queues.{times}
use Rattle.match_season.specs.Seasons.{Rises, Settles, WritesAllBut, WritesMatches, WritesMore, WritesMoreAndPart, WritesPart, WritesSomeAndPart, WritesUpTo, is_open, mark, places_of, settled_in}
use Rattle.match_season.specs.declared.season_output.SeasonFault.{SeasonFault}
use Rattle.match_season.specs.declared.season_output.SeasonFault.TheVariants.{WriteFault}
use Rattle.match_season.specs.declared.written.Written.{Written}

concat-append : (xs ys : List (List ℕ)) → concat (xs ++ ys) ≡ concat xs ++ concat ys
concat-append [] ys = refl
concat-append (x ∷ xs) ys = ap (λ (rest : List ℕ). x ++ rest) (concat-append xs ys) ∙ sym (append_assoc x (concat xs) (concat ys))

zip-append : {A B : Type 0} (R : A → B → Type 0) (xs zs : List A) (ys ws : List B) → AllZip R xs ys → AllZip R zs ws → AllZip R (xs ++ zs) (ys ++ ws)
zip-append R [] zs [] ws first second = second
zip-append R [] zs (y ∷ ys) ws first second = absurd first
zip-append R (x ∷ xs) zs [] ws first second = absurd first
zip-append R (x ∷ xs) zs (y ∷ ys) ws first second = (first.0, zip-append R xs zs ys ws first.1 second)

pub no-matches : (I : ℕ → List ℕ → Type 0) (a : Option (List ℕ)) → WritesMatches I [] a a
no-matches I a = record { texts = []; are_outputs = tt; appended = Appends-nil a }

pub nothing-written : (I : ℕ → List ℕ → Type 0) (order : RecordOrder) (count : ℕ) (a : Option (List ℕ)) → count ≡ 0 → WritesAllBut I order 0 count a a
nothing-written I order count a none = record { places = []; others = sym none; once = λ place. omega arith; in_order = λ ordered. omega arith; written = no-matches I a }

one-match : (I : ℕ → List ℕ → Type 0) (place : ℕ) (a b : Option (List ℕ)) (told : List ℕ) → ∥ I place told ∥₁ → Appends a b told → WritesMatches I (place ∷ []) a b
one-match I place a b told output written = record { texts = told ∷ []; are_outputs = (output, tt); appended = subst (Appends a b) (sym (append-nil told)) written }

matches-trans : (I : ℕ → List ℕ → Type 0) (a b c : Option (List ℕ)) (first second : List ℕ) → WritesMatches I first a b → WritesMatches I second b c → WritesMatches I (first ++ second) a c
matches-trans I a b c first second before now =
    let xs = before.texts in
    let ys = now.texts in
    record {
      texts = xs ++ ys;
      are_outputs = zip-append (λ place text. ∥ I place text ∥₁) first second xs ys before.are_outputs now.are_outputs;
      appended = subst (Appends a c) (sym (concat-append xs ys)) (Appends-trans a b c (concat xs) (concat ys) before.appended now.appended);
    }

pub ended-match : (I : ℕ → List ℕ → Type 0) (is_new : Bool) (place : ℕ) (a b : Option (List ℕ)) (told : List ℕ) → ∥ I place told ∥₁ → Appends a b (cond is_new told []) → WritesMatches I (cond is_new (place ∷ []) []) a b
ended-match I true place a b told output written = one-match I place a b told output written
ended-match I false place a b told output written = record { texts = []; are_outputs = tt; appended = written }

times-one : (place at : ℕ) → times (place ∷ []) at ≡ cond (place == at) 1 0
times-one place at = omega arith

cond-few : (b : Bool) → cond b 1 0 ≤ 1
cond-few true = omega arith
cond-few false = omega arith

mark-few : (settled : List Bool) (place : ℕ) → mark settled place ≤ 1
mark-few settled place = cond-few (get_or settled place false)

mark-kept : (settled : List Bool) (place at : ℕ) → mark settled at ≤ mark (set settled place true) at
mark-kept settled place at =
    elim (cases_eq at place) [
      | inl same ↦
          elim (cases_lt place (length settled)) [
            | inl within ↦
                let there : get_or (set settled place true) at false ≡ true = subst (λ (n : ℕ). get_or (set settled place true) n false ≡ true) (sym same) (get_or-set_same settled place true false within) in
                let is : ◌≡◌ {A = ℕ} (mark (set settled place true) at) 1 = ap (λ (b : Bool). cond b 1 0) there in
                omega (arith, is, mark-few settled at)
            | inr past ↦ (let is : mark (set settled place true) at ≡ mark settled at = ap (λ (them : List Bool). mark them at) (set_past settled place true past) in omega (arith, is))
          ]
      | inr other ↦ (let is : mark (set settled place true) at ≡ mark settled at = ap (λ (b : Bool). cond b 1 0) (get_or-set_other settled place at true false other) in omega (arith, is))
    ]

mark-opened : (settled : List Bool) (place at : ℕ) → is_open settled place ≡ true → times (place ∷ []) at + mark settled at ≤ mark (set settled place true) at
mark-opened settled place at is =
    let not-yet : get_or settled place true ≡ false = not-true (get_or settled place true) is in
    elim (cases_eq place at) [
      | inl same ↦
          elim (cases_lt place (length settled)) [
            | inl within ↦
                let there : get_or (set settled place true) at false ≡ true = subst (λ (n : ℕ). get_or (set settled place true) n false ≡ true) same (get_or-set_same settled place true false within) in
                let after : ◌≡◌ {A = ℕ} (mark (set settled place true) at) 1 = ap (λ (b : Bool). cond b 1 0) there in
                let none : get_or settled at false ≡ false = subst (λ (n : ℕ). get_or settled n false ≡ false) same (get_or_default settled place false true within ∙ not-yet) in
                let before : ◌≡◌ {A = ℕ} (mark settled at) 0 = ap (λ (b : Bool). cond b 1 0) none in
                let one : ◌≡◌ {A = ℕ} (cond (place == at) 1 0) 1 = ap (λ (b : Bool). cond b 1 0) (eq-eqb place at same) in
                omega (arith, times-one place at, one, before, after)
            | inr past ↦ absurd (true≢false (sym (get_or_past settled place true past) ∙ not-yet))
          ]
      | inr other ↦
          let none : ◌≡◌ {A = ℕ} (cond (place == at) 1 0) 0 = ap (λ (b : Bool). cond b 1 0) (ne_eqb place at other) in
          omega (arith, times-one place at, none, mark-kept settled place at)
    ]

count-opened : (settled : List Bool) (place : ℕ) → is_open settled place ≡ true → count_by (λ it. it) settled + 1 ≤ count_by (λ it. it) (set settled place true)
count-opened settled place is =
    let not-yet : get_or settled place true ≡ false = not-true (get_or settled place true) is in
    elim (cases_lt place (length settled)) [
      | inl within ↦
          let step = sum_by-set (λ (it : Bool). cond it 1 0) settled place true true within in
          let none : ◌≡◌ {A = ℕ} (cond (get_or settled place true) 1 0) 0 = ap (λ (b : Bool). cond b 1 0) not-yet in
          omega (arith, step, none)
      | inr past ↦ absurd (true≢false (sym (get_or_past settled place true past) ∙ not-yet))
    ]

count-kept : (settled : List Bool) (place : ℕ) → count_by (λ it. it) settled ≤ count_by (λ it. it) (set settled place true)
count-kept settled place =
    elim (cases_lt place (length settled)) [
      | inl within ↦
          let step = sum_by-set (λ (it : Bool). cond it 1 0) settled place true true within in
          let few : cond (get_or settled place true) 1 0 ≤ 1 = cond-few (get_or settled place true) in
          omega (arith, step, few)
      | inr past ↦ (let same : count_by (λ it. it) (set settled place true) ≡ count_by (λ it. it) settled = ap (λ (them : List Bool). count_by (λ it. it) them) (set_past settled place true past) in omega (arith, same))
    ]

pub rises-lower : (low from : ℕ) (places : List ℕ) (high : ℕ) → low ≤ from → Rises from places high → Rises low places high
rises-lower low from [] high le rises = omega (arith, le, rises)
rises-lower low from (place ∷ places) high le rises = (omega (arith, le, rises.0), rises.1)

pub rises-higher : (low : ℕ) (places : List ℕ) (high to : ℕ) → high ≤ to → Rises low places high → Rises low places to
rises-higher low [] high to le rises = omega (arith, le, rises)
rises-higher low (place ∷ places) high to le rises = (rises.0, rises-higher (place + 1) places high to le rises.1)

pub rises-trans : (low : ℕ) (first : List ℕ) (mid : ℕ) (second : List ℕ) (high : ℕ) → Rises low first mid → Rises mid second high → Rises low (first ++ second) high
rises-trans low [] mid second high before now = rises-lower low mid second high before now
rises-trans low (place ∷ places) mid second high before now = (before.0, rises-trans (place + 1) places mid second high before.1 now)

pub rises-one : (has : Bool) (place : ℕ) → Rises place (cond has (place ∷ []) []) (place + 1)
rises-one true place = (omega arith, omega arith)
rises-one false place = omega arith

pub more-none : (I : ℕ → List ℕ → Type 0) (O : List ℕ → Type 0) (w : Written) (a : Option (List ℕ)) → O [] → WritesMore I O w w a a
more-none I O w a ordered = record { places = []; in_order = ordered; written = no-matches I a; once = λ at. omega arith; so_many = omega arith; counted = λ fits. omega arith; same_places = refl }

pub more-trans : (I : ℕ → List ℕ → Type 0) (O P Q : List ℕ → Type 0) (u v w : Written) (a b c : Option (List ℕ)) → ((xs ys : List ℕ) → O xs → P ys → Q (xs ++ ys)) → WritesMore I O u v a b → WritesMore I P v w b c → WritesMore I Q u w a c
more-trans I O P Q u v w a b c join before now =
    let all = length-append before.places now.places in
    record {
      places = before.places ++ now.places;
      in_order = join before.places now.places before.in_order now.in_order;
      written = matches-trans I a b c before.places now.places before.written now.written;
      once = λ at. omega (arith, sum_by-append (λ (it : ℕ). cond (it == at) 1 0) before.places now.places, before.once at, now.once at);
      so_many = omega (arith, all, before.so_many, now.so_many);
      counted = λ fits.
          let first : v.records ≡ u.records + length before.places = before.counted (omega (arith, fits, all)) in
          let second : w.records ≡ v.records + length now.places = now.counted (omega (arith, fits, all, first)) in
          omega (arith, all, first, second);
      same_places = now.same_places ∙ before.same_places;
    }

pub more-weaker : (I : ℕ → List ℕ → Type 0) (O P : List ℕ → Type 0) (v w : Written) (a b : Option (List ℕ)) → ((xs : List ℕ) → O xs → P xs) → WritesMore I O v w a b → WritesMore I P v w a b
more-weaker I O P v w a b weaker some = record {
  places = some.places;
  in_order = weaker some.places some.in_order;
  written = some.written;
  once = some.once;
  so_many = some.so_many;
  counted = some.counted;
  same_places = some.same_places;
}

one-place : (I : ℕ → List ℕ → Type 0) (has : Bool) (place : ℕ) (v w : Written) (b c : Option (List ℕ)) → (has ≡ true → is_open v.is_settled.items place ≡ true)
    → WritesMatches I (cond has (place ∷ []) []) b c → Settles v w place (length (cond has (place ∷ []) [])) → WritesMore I (λ places. Rises place places (place + 1)) v w b c
one-place I true place v w b c has-open now settles = record {
  places = place ∷ [];
  in_order = rises-one true place;
  written = now;
  once = λ at. subst (λ (them : List Bool). times (place ∷ []) at + mark v.is_settled.items at ≤ mark them at) (sym settles.settled) (mark-opened v.is_settled.items place at (has-open refl));
  so_many = subst (λ (them : List Bool). 1 + settled_in v ≤ count_by (λ it. it) them) (sym settles.settled) (omega (arith, count-opened v.is_settled.items place (has-open refl)));
  counted = settles.counted;
  same_places = ap length settles.settled ∙ length-set v.is_settled.items place true;
}
one-place I false place v w b c has-open now settles = record {
  places = [];
  in_order = rises-one false place;
  written = now;
  once = λ at.
      let kept : mark v.is_settled.items at ≤ mark w.is_settled.items at = subst (λ (them : List Bool). mark v.is_settled.items at ≤ mark them at) (sym settles.settled) (mark-kept v.is_settled.items place at) in
      omega (arith, kept);
  so_many = subst (λ (them : List Bool). 0 + settled_in v ≤ count_by (λ it. it) them) (sym settles.settled) (omega (arith, count-kept v.is_settled.items place));
  counted = settles.counted;
  same_places = ap length settles.settled ∙ length-set v.is_settled.items place true;
}

pub more-settled : {T E : Type 0} (I : ℕ → List ℕ → Type 0) (O Q : List ℕ → Type 0) (u v w : Written) (a b c : Option (List ℕ)) (outcome : Result T E) (place : ℕ) → ((xs ys : List ℕ) → O xs → Rises place ys (place + 1) → Q (xs ++ ys))
    → WritesMore I O u v a b → WritesMatches I (places_of v place outcome) b c → Settles v w place (length (places_of v place outcome)) → WritesMore I Q u w a c
more-settled I O Q u v w a b c outcome place join before now settles =
    more-trans I O (λ places. Rises place places (place + 1)) Q u v w a b c join before
    (one-place I (is_ok outcome && is_open v.is_settled.items place) place v w b c (λ has. (and_parts (is_ok outcome) (is_open v.is_settled.items place) has).1) now settles)

-- If nothing was written before, each match that is not counted is missing.
pub all-but : (I : ℕ → List ℕ → Type 0) (order : RecordOrder) (all missing : ℕ) (before after : Written) (a b : Option (List ℕ)) → before.records ≡ 0 → length before.is_settled.items ≡ all → all < 2 ^ 64
    → missing ≡ length after.is_settled.items - after.records → WritesMore I (λ places. order ≡ OfSchedule → Rises 0 places (length before.is_settled.items)) before after a b → WritesAllBut I order missing all a b
all-but I order all missing before after a b none long few is some =
    let most : length some.places ≤ all = omega (arith, some.so_many, count_by-le-length (λ it. it) after.is_settled.items, some.same_places, long) in
    record {
      places = some.places;
      others =
          let counted : after.records ≡ before.records + length some.places = some.counted (omega (arith, none, few, most)) in
          omega (arith, counted, none, long, is, most, some.same_places);
      once = λ at. omega (arith, some.once at, mark-few after.is_settled.items at);
      in_order = λ asked. subst (Rises 0 some.places) long (some.in_order asked);
      written = some.written;
    }

pub more-to_part : (I : ℕ → List ℕ → Type 0) (O Q : List ℕ → Type 0) (u v : Written) (a b c : Option (List ℕ)) (last : ℕ) → ((xs : List ℕ) → O xs → Q (xs ++ last ∷ []))
    → WritesMore I O u v a b → is_open v.is_settled.items last ≡ true → WritesPart I last b c → WritesMoreAndPart I Q u a c
more-to_part I O Q u v a b c last join before was-open part = record {
  last = last;
  between = v;
  middle = b;
  whole = more-weaker I O (λ places. Q (places ++ last ∷ [])) u v a b join before;
  was_open = was-open;
  part = part;
}

pub more-then_part : (I : ℕ → List ℕ → Type 0) (O P Q : List ℕ → Type 0) (u v : Written) (a b c : Option (List ℕ)) → ((xs ys : List ℕ) → O xs → P ys → Q (xs ++ ys))
    → WritesMore I O u v a b → WritesMoreAndPart I P v b c → WritesMoreAndPart I Q u a c
more-then_part I O P Q u v a b c join before now =
    let end = now.last ∷ [] in
    record {
      last = now.last;
      between = now.between;
      middle = now.middle;
      whole = more-trans I O (λ places. P (places ++ end)) (λ places. Q (places ++ end)) u v now.between a b now.middle
          (λ xs ys first then. subst Q (sym (append_assoc xs ys end)) (join xs (ys ++ end) first then)) before now.whole;
      was_open = now.was_open;
      part = now.part;
    }

some-and_part : (I : ℕ → List ℕ → Type 0) (order : RecordOrder) (all : ℕ) (before : Written) (a b : Option (List ℕ))
    → WritesMoreAndPart I (λ places. order ≡ OfSchedule → Rises 0 places all) before a b → WritesSomeAndPart I order all a b
some-and_part I order all before a b it =
    let settled = it.between.is_settled.items in
    record {
      places = it.whole.places;
      last = it.last;
      once = λ at.
          omega (arith, sum_by-append (λ (n : ℕ). cond (n == at) 1 0) it.whole.places (it.last ∷ []), it.whole.once at, mark-opened settled it.last at it.was_open, mark-few (set settled it.last true) at);
      in_order = it.whole.in_order;
      middle = it.middle;
      written = it.whole.written;
      part = it.part;
    }

pub up_to-write_fault : (I : ℕ → List ℕ → Type 0) (order : RecordOrder) (all : ℕ) (before : Written) (a b : Option (List ℕ)) (fault : SeasonFault) → fault ≡ WriteFault
    → WritesMoreAndPart I (λ places. order ≡ OfSchedule → Rises 0 places all) before a b → WritesUpTo I order all a b fault
up_to-write_fault I order all before a b fault is it = subst (WritesUpTo I order all a b) (sym is) (some-and_part I order all before a b it)
