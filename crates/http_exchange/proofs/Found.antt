-- A body that is found is carried, and a body that is carried is found.
use Rattle.std.proofs.Common.{◌≡◌, ℕ, ◌+◌, ◌-◌, ◌≤◌, Bool, true, false, cond, List, ◌++◌, length, take, drop, Option, Some, None, refl, sym, ap, subst, ◌∙◌, arith, inl, inr, length-take}
use Rattle.std.specs.Prelude.{◌⊎◌, nat_lt, nat_le, slice_range}
use Rattle.std.proofs.lemmas.List.{take-append-drop, take_all}
use Rattle.std.proofs.lemmas.Bool.Decides.{nat_tests}
use Rattle.http_exchange.specs.BodyLength.{BodyLength, unsaid, said, wrong, body_length, length_fault}
use Rattle.http_exchange.specs.HttpHead.{Parts, Reads, framed, framed_by, unless_refused, front, max_head, max_body}
use Rattle.http_exchange.specs.Looks.{Looks, look_from, look_past}
use Rattle.http_exchange.specs.Carried.{Carried, Follows}
use Rattle.http_exchange.specs.WireFaults.{WantsMore}
use Rattle.http_exchange.specs.WireLaws.{FoundIsCarried, IsFound, CarriedIsFound, CarriesOneAtMost, CarriedHasNoFault}
use Rattle.http_exchange.specs.declared.head.HttpKind.{HttpKind}
use Rattle.http_exchange.specs.declared.head.HttpKind.TheVariants.{Reply, Request}
use Rattle.http_exchange.specs.declared.head.Frame.{Frame}
use Rattle.http_exchange.specs.declared.head.Head.{Head}
use Rattle.http_exchange.specs.declared.head.Head.TheVariants.{Unfinished, Whole, Bad, Refused}
use Rattle.http_exchange.specs.declared.look.Look.{Look}
use Rattle.http_exchange.specs.declared.look.Look.TheVariants as looks
use Rattle.http_exchange.specs.declared.wire_fault.FrameFault.{FrameFault}
use Rattle.http_exchange.specs.declared.wire_fault.FrameFault.TheVariants.{BadHead, NoLength, TooLong, CutShort}
use Rattle.http_exchange.specs.declared.wire_fault.WireFault.TheVariants.{WriteFault, ReadFault, TooManyReads, Memory}
use Rattle.http_exchange.specs.declared.wire_fault.WireFault.TheVariants as faults
use Rattle.http_exchange.proofs.Heads.{placed, none_in_nothing, reads_on, reads_cut, framed_alone, refused_first}

-- ---- Carried, so found

found_said : (kind : HttpKind) (n size : ℕ) (fault : FrameFault) (given rest body : List ℕ) (ended : Bool) → (n ≤ max_body kind) × (n ≤ length rest) × (body ≡ take n rest)
    → length given ≡ size + length rest → rest ≡ drop size given → IsFound (look_past (framed_by kind size fault (said n)) (length given) ended) given body
found_said kind n size fault given rest body ended follows whole at =
    let within = follows.1 in
    let small : nat_le n (max_body kind) ≡ true = grind (arith, nat_tests, follows.0) in
    let inside : nat_le (size + n) (length given) ≡ true = grind (arith, nat_tests) in
    let count : (size + n) - size ≡ n = omega arith in
    rw (small, inside) (follows.2 ∙ ap (take n) at ∙ ap (λ k. take k (drop size given)) (sym count))

found_unsaid : (size : ℕ) (fault : FrameFault) (given rest body : List ℕ) (ended : Bool) → (ended ≡ true) × (length rest ≤ max_body Reply) × (body ≡ rest)
    → length given ≡ size + length rest → rest ≡ drop size given → IsFound (look_past (framed_by Reply size fault unsaid) (length given) ended) given body
found_unsaid size fault given rest body ended follows whole at =
    let short = follows.1 in
    let at_end = follows.0 in
    let fits : nat_lt (size + max_body Reply) (length given) ≡ false = grind (arith, nat_tests) in
    let all : length rest ≤ length given - size = omega arith in
    rw (fits, at_end) (follows.2 ∙ sym (take_all (length given - size) rest all) ∙ ap (take (length given - size)) at)

found_by : (kind : HttpKind) (l : BodyLength) (size : ℕ) (fault : FrameFault) (given rest body : List ℕ) (ended : Bool) → Follows kind l rest ended body
    → length given ≡ size + length rest → rest ≡ drop size given → IsFound (look_past (framed_by kind size fault l) (length given) ended) given body
found_by kind wrong size fault given rest body ended follows whole at = follows
found_by kind (said n) size fault given rest body ended follows whole at = found_said kind n size fault given rest body ended follows whole at
found_by Reply unsaid size fault given rest body ended follows whole at = found_unsaid size fault given rest body ended follows whole at
found_by Request unsaid size fault given rest body ended follows whole at = follows

carried_reads : (kind : HttpKind) (given : List ℕ) (ended : Bool) (body : List ℕ) (c : Carried kind given ended body)
    → Reads kind (front given) c.head (take (max_head - c.head.size) c.rest)
carried_reads kind given ended body c = reads_cut kind max_head given c.head c.rest c.reads c.small

pub carried_is_found : CarriedIsFound
carried_is_found kind given ended body look c is =
    let parts = c.head in
    let head : is.0 ≡ framed_by kind parts.size (length_fault parts.fields) (body_length parts.fields) =
    framed_alone kind given parts (take (max_head - parts.size) c.rest) is.0 (carried_reads kind given ended body c) c.few is.1
    ∙ ap (λ r. unless_refused r (framed_by kind parts.size (length_fault parts.fields) (body_length parts.fields))) c.taken in
    let at = placed kind given parts c.rest c.reads in
    subst (λ (l : Look). IsFound l given body) (sym (is.2 ∙ ap (λ (h : Head). look_past h (length given) ended) head))
    (found_by kind (body_length parts.fields) parts.size (length_fault parts.fields) given c.rest body ended c.follows at.1 at.0)

-- ---- Found, so carried

chosen : (b : Bool) (x y z : Look) → z ≡ cond b x y → ((b ≡ true) × (z ≡ x)) ⊎ ((b ≡ false) × (z ≡ y))
chosen true x y z h = inl (refl, h)
chosen false x y z h = inr (refl, h)

not_refused : (r : FrameFault) (s e : ℕ) → looks.Body s e ≡ looks.Refused r → ⊥
not_refused r s e h = cc

not_more : (s e : ℕ) → looks.Body s e ≡ looks.More → ⊥
not_more s e h = cc

same_body : (a b s e : ℕ) → looks.Body s e ≡ looks.Body a b → (s ≡ a) × (e ≡ b)
same_body a b s e h = (cc, cc)

-- where a body that is found begins and ends, according to the fields
StandsAt : HttpKind → BodyLength → ℕ → ℕ → Bool → ℕ → ℕ → Type 0
StandsAt kind wrong size have ended s e = ⊥
StandsAt kind (said n) size have ended s e = (n ≤ max_body kind) × (size + n ≤ have) × (s ≡ size) × (e ≡ size + n)
StandsAt Reply unsaid size have ended s e = (ended ≡ true) × (have ≤ size + max_body Reply) × (s ≡ size) × (e ≡ have)
StandsAt Request unsaid size have ended s e = ⊥

stands_said : (n size have s e : ℕ) (ended : Bool) → looks.Body s e ≡ look_from size (Some n) have ended → (size + n ≤ have) × (s ≡ size) × (e ≡ size + n)
stands_said n size have s e ended h =
    elim (chosen (nat_le (size + n) have) (looks.Body size (size + n)) (cond ended (looks.Refused CutShort) looks.More) (looks.Body s e) h) [
      | inl whole ↦
          let test = whole.0 in
          let same = same_body size (size + n) s e whole.1 in
          (grind (arith, nat_tests), same.0, same.1)
      | inr part ↦
          elim (chosen ended (looks.Refused CutShort) looks.More (looks.Body s e) part.1) [
            | inl cut ↦ absurd (not_refused CutShort s e cut.1)
            | inr more ↦ absurd (not_more s e more.1)
          ]
    ]

stands_unsaid : (size have s e : ℕ) (ended : Bool) → looks.Body s e ≡ look_from size None have ended → (ended ≡ true) × (have ≤ size + max_body Reply) × (s ≡ size) × (e ≡ have)
stands_unsaid size have s e ended h =
    elim (chosen (nat_lt (size + max_body Reply) have) (looks.Refused TooLong) (cond ended (looks.Body size have) looks.More) (looks.Body s e) h) [
      | inl long ↦ absurd (not_refused TooLong s e long.1)
      | inr short ↦
          elim (chosen ended (looks.Body size have) looks.More (looks.Body s e) short.1) [
            | inl at_end ↦
                let test = short.0 in
                let same = same_body size have s e at_end.1 in
                (at_end.0, grind (arith, nat_tests), same.0, same.1)
            | inr more ↦ absurd (not_more s e more.1)
          ]
    ]

allowed : (b : Bool) (frame : Frame) (have : ℕ) (ended : Bool) (s e : ℕ) → looks.Body s e ≡ look_past (cond b (Whole frame) (Refused TooLong)) have ended
    → (b ≡ true) × (looks.Body s e ≡ look_from frame.start frame.length have ended)
allowed true frame have ended s e h = (refl, h)
allowed false frame have ended s e h = absurd (not_refused TooLong s e h)

stands_at : (kind : HttpKind) (l : BodyLength) (fault : FrameFault) (size have s e : ℕ) (ended : Bool) → looks.Body s e ≡ look_past (framed_by kind size fault l) have ended
    → StandsAt kind l size have ended s e
unfolding StandsAt
stands_at kind wrong fault size have s e ended h = absurd (not_refused fault s e h)
stands_at kind (said n) fault size have s e ended h =
    let taken = allowed (nat_le n (max_body kind)) (record { start = size; length = Some n }) have ended s e h in
    let test = taken.0 in
    let stands = stands_said n size have s e ended taken.1 in
    (grind (arith, nat_tests), stands.0, stands.1, stands.2)
stands_at Reply unsaid fault size have s e ended h = stands_unsaid size have s e ended h
stands_at Request unsaid fault size have s e ended h = absurd (not_refused NoLength s e h)

follows_from : (kind : HttpKind) (l : BodyLength) (size s e : ℕ) (given rest : List ℕ) (ended : Bool) → StandsAt kind l size (length given) ended s e
    → rest ≡ drop size given → length given ≡ size + length rest → Follows kind l rest ended (slice_range given s e)
unfolding StandsAt
follows_from kind wrong size s e given rest ended stands at whole = stands
follows_from kind (said n) size s e given rest ended stands at whole =
    let inside = stands.1 in
    let count : e - s ≡ n = omega (arith, stands.2, stands.3) in
    (stands.0, omega arith, ap (λ k. take k (drop s given)) count ∙ ap (λ k. take n (drop k given)) stands.2 ∙ ap (take n) (sym at))
follows_from Reply unsaid size s e given rest ended stands at whole =
    let inside = stands.1 in
    let all : length rest ≤ e - s = omega (arith, stands.2, stands.3) in
    (stands.0, omega arith, ap (λ k. take (e - s) (drop k given)) stands.2 ∙ ap (take (e - s)) (sym at) ∙ take_all (e - s) rest all)
follows_from Request unsaid size s e given rest ended stands at whole = stands

first_line_taken : (r : Option FrameFault) (head : Head) (have : ℕ) (ended : Bool) (s e : ℕ) → looks.Body s e ≡ look_past (unless_refused r head) have ended
    → (r ≡ None) × (looks.Body s e ≡ look_past head have ended)
first_line_taken None head have ended s e h = (refl, h)
first_line_taken (Some refusal) head have ended s e h =
    let past : (other : Head) → unless_refused (Some refusal) head ≡ other → looks.Body s e ≡ look_past other have ended = λ other same. h ∙ ap (λ (first : Head). look_past first have ended) same in
    elim (refused_first refusal head) [
      | inl bad ↦ absurd (not_refused BadHead s e (past _ bad))
      | inr other ↦ absurd (not_refused refusal s e (past _ other))
    ]

-- a head in the front comes before all remaining bytes
reads_all : (kind : HttpKind) (given : List ℕ) (parts : Parts) (rest : List ℕ) → Reads kind (front given) parts rest
    → Reads kind given parts (rest ++ drop max_head given)
reads_all kind given parts rest reads =
    subst (λ (l : List ℕ). Reads kind l parts (rest ++ drop max_head given)) (take-append-drop max_head given) (reads_on kind (front given) parts rest (drop max_head given) reads)

carried_from : (kind : HttpKind) (given : List ℕ) (ended : Bool) (s e : ℕ) (parts : Parts) (rest : List ℕ) → Reads kind (front given) parts rest
    → length parts.fields ≤ 64 → looks.Body s e ≡ look_past (framed kind parts) (length given) ended → Carried kind given ended (slice_range given s e)
carried_from kind given ended s e parts rest reads few h =
    let all = rest ++ drop max_head given in
    let whole = reads_all kind given parts rest reads in
    let at = placed kind given parts all whole in
    let in_front = (placed kind (front given) parts rest reads).1 in
    let taken = first_line_taken parts.refusal (framed_by kind parts.size (length_fault parts.fields) (body_length parts.fields)) (length given) ended s e h in
    let stands = stands_at kind (body_length parts.fields) (length_fault parts.fields) parts.size (length given) s e ended taken.1 in
    record {
      head = parts;
      rest = all;
      reads = whole;
      small = omega (arith, length-take max_head given, in_front);
      few = few;
      taken = taken.0;
      follows = follows_from kind (body_length parts.fields) parts.size s e given all ended stands at.0 at.1;
    }

not_unfinished : (have : ℕ) (ended : Bool) (s e : ℕ) → looks.Body s e ≡ look_past Unfinished have ended → ⊥
not_unfinished have ended s e h =
    elim (chosen (nat_le max_head have) (looks.Refused TooLong) (cond ended (looks.Refused CutShort) looks.More) (looks.Body s e) h) [
      | inl long ↦ not_refused TooLong s e long.1
      | inr short ↦
          elim (chosen ended (looks.Refused CutShort) looks.More (looks.Body s e) short.1) [
            | inl cut ↦ not_refused CutShort s e cut.1
            | inr more ↦ not_more s e more.1
          ]
    ]

pub found_is_carried : FoundIsCarried
found_is_carried kind given ended s e is =
    let past : (head : Head) → is.0 ≡ head → looks.Body s e ≡ look_past head (length given) ended = λ head same. is.2 ∙ ap (λ (h : Head). look_past h (length given) ended) same in
    elim is.1 [
      | inl whole ↦ carried_from kind given ended s e whole.0 whole.1 whole.2 whole.3 (past (framed kind whole.0) whole.4)
      | inr other ↦
          elim other [
            | inl hopeless ↦ absurd (not_refused BadHead s e (past (Bad hopeless.1) hopeless.3))
            | inr unfinished ↦ absurd (not_unfinished (length given) ended s e (past Unfinished unfinished.2))
          ]
    ]

-- ---- No other body, and no error

carried_looks : (kind : HttpKind) (given : List ℕ) (ended : Bool) (body : List ℕ) (c : Carried kind given ended body)
    → Looks kind given ended (look_past (framed kind c.head) (length given) ended)
carried_looks kind given ended body c =
    (framed kind c.head, inl (c.head, take (max_head - c.head.size) c.rest, carried_reads kind given ended body c, c.few, refl), refl)

one_found : (look : Look) (given one other : List ℕ) → IsFound look given one → IsFound look given other → one ≡ other
one_found looks.More given one other a b = absurd a
one_found (looks.Body s e) given one other a b = a ∙ sym b
one_found (looks.Refused r) given one other a b = absurd a

pub carries_one_at_most : CarriesOneAtMost
carries_one_at_most kind given ended one other a b =
    let look = look_past (framed kind a.head) (length given) ended in
    let said = carried_looks kind given ended one a in
    one_found look given one other (carried_is_found kind given ended one look a said) (carried_is_found kind given ended other look b said)

not_wanting : (kind : HttpKind) (given : List ℕ) (ended : Bool) (body : List ℕ) → Carried kind given ended body → ended ≡ false → WantsMore kind given → ⊥
not_wanting kind given ended body c goes_on wants =
    elim wants [
      | inl nothing ↦ none_in_nothing kind c.head c.rest (subst (λ (l : List ℕ). Reads kind l c.head c.rest) nothing c.reads)
      | inr more ↦ carried_is_found kind given false body looks.More (subst (λ (b : Bool). Carried kind given b body) goes_on c) more
    ]

not_refusing : (kind : HttpKind) (given : List ℕ) (ended : Bool) (body : List ℕ) (refusal : FrameFault) → Carried kind given ended body
    → Looks kind given ended (looks.Refused refusal) → ⊥
not_refusing kind given ended body refusal c is = carried_is_found kind given ended body (looks.Refused refusal) c is

pub carried_has_no_fault : (S : Type 0) → CarriedHasNoFault S
carried_has_no_fault S kind given ended body (ReadFault cause) old new c stops = absurd (not_wanting kind given ended body c stops.1 stops.2)
carried_has_no_fault S kind given ended body TooManyReads old new c stops = absurd (not_wanting kind given ended body c stops.0 stops.1)
carried_has_no_fault S kind given ended body Memory old new c stops = refl
carried_has_no_fault S kind given ended body WriteFault old new c stops = absurd (not_refusing kind given ended body stops.0 c stops.2)
carried_has_no_fault S kind given ended body faults.BadHead old new c stops = absurd (not_refusing kind given ended body stops.0 c stops.2)
carried_has_no_fault S kind given ended body faults.BadStatus old new c stops = absurd (not_refusing kind given ended body stops.0 c stops.2)
carried_has_no_fault S kind given ended body faults.BadLength old new c stops = absurd (not_refusing kind given ended body stops.0 c stops.2)
carried_has_no_fault S kind given ended body faults.TooLong old new c stops = absurd (not_refusing kind given ended body stops.0 c stops.2)
carried_has_no_fault S kind given ended body faults.CutShort old new c stops = absurd (not_refusing kind given ended body stops.0 c stops.2)
