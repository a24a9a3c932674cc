-- The body's length, computed field by field.
use Rattle.std.proofs.Common.{◌≡◌, ℕ, ◌+◌, ◌<◌, Bool, true, false, cond, List, [], ◌∷◌, ◌++◌, map, drop, get_or, length, Option, Some, None, refl, sym, ap, ◌∙◌, arith}
use Rattle.std.specs.Prelude.{◌==◌, if◌then◌else◌}
use Rattle.std.specs.List.{list_all, list_any}
use Rattle.std.specs.Str.Parse.{digits_value}
use Rattle.std.proofs.lemmas.Bool.Decides.{nat_tests}
use Rattle.std.proofs.lemmas.List.{at_drop_more}
use Rattle.http_exchange.specs.BodyLength.{Header, BodyLength, unsaid, said, wrong, has_name, transfer_encoding, content_length, writes_number, lengths, body_length, is_wrong, field_fault, value_fault, fault_behind, length_fault}
use Rattle.http_exchange.specs.Internal.Heads.{length_of, agrees}
use Rattle.http_exchange.specs.declared.wire_fault.FrameFault.{FrameFault}
use Rattle.http_exchange.specs.declared.wire_fault.FrameFault.TheVariants.{TransferEncoding, NoLength}
use Rattle.game_core.specs.Numerals.{are_digits}
use Rattle.std.proofs.lemmas.Bool.{and_parts as both}

abbrev agree : BodyLength → List ℕ → BodyLength
agree wrong value = wrong
agree unsaid value = if are_digits value then said (digits_value 10 value) else wrong
agree (said n) value = if writes_number n value then said n else wrong

abbrev one : BodyLength → Header → BodyLength
one before field =
    if has_name transfer_encoding field.0 then wrong
    else (if has_name content_length field.0 then agree before field.1 else before)

-- the result after these further fields
abbrev pub after : BodyLength → List Header → BodyLength
after before [] = before
after before (field ∷ fields) = after (one before field) fields

abbrev has_coding : Header → Bool
has_coding field = has_name transfer_encoding field.0

either : (b : Bool) (x : BodyLength) → x ≡ cond b x x
either true x = refl
either false x = refl

one_wrong : (field : Header) → one wrong field ≡ wrong
one_wrong field =
    sym (either (has_name transfer_encoding field.0) wrong ∙ ap (cond (has_name transfer_encoding field.0) wrong) (either (has_name content_length field.0) wrong))

pub after_wrong : (fields : List Header) → after wrong fields ≡ wrong
after_wrong [] = refl
after_wrong (field ∷ fields) = ap (λ b. after b fields) (one_wrong field) ∙ after_wrong fields

after_said : (n : ℕ) (fields : List Header)
    → after (said n) fields ≡ cond (list_any has_coding fields) wrong (cond (list_all (writes_number n) (lengths fields)) (said n) wrong)
after_said n [] = refl
after_said n (field ∷ fields) =
    step (has_coding field) refl (has_name content_length field.0) refl (writes_number n field.1) refl (after_said n fields)
  where
    step : (a : Bool) → has_name transfer_encoding field.0 ≡ a → (b : Bool) → has_name content_length field.0 ≡ b → (d : Bool) → writes_number n field.1 ≡ d
        → after (said n) fields ≡ cond (list_any has_coding fields) wrong (cond (list_all (writes_number n) (lengths fields)) (said n) wrong)
        → after (said n) (field ∷ fields) ≡ cond (list_any has_coding (field ∷ fields)) wrong (cond (list_all (writes_number n) (lengths (field ∷ fields))) (said n) wrong)
    step true e b f d g rest = rw e (after_wrong fields)
    step false e true f true g rest = rw (e, f, g) rest
    step false e true f false g rest = rw (e, f, g) (after_wrong fields ∙ either (list_any has_coding fields) wrong)
    step false e false f d g rest = rw (e, f) rest

pub after_all : (fields : List Header) → after unsaid fields ≡ body_length fields
after_all [] = refl
after_all (field ∷ fields) =
    step (has_coding field) refl (has_name content_length field.0) refl (are_digits field.1) refl (after_all fields)
  where
    step : (a : Bool) → has_name transfer_encoding field.0 ≡ a → (b : Bool) → has_name content_length field.0 ≡ b → (d : Bool) → are_digits field.1 ≡ d
        → after unsaid fields ≡ body_length fields → after unsaid (field ∷ fields) ≡ body_length (field ∷ fields)
    step true e b f d g rest = rw e (after_wrong fields)
    step false e true f true g rest =
        let same : (digits_value 10 field.1 == digits_value 10 field.1) ≡ true = grind (arith, nat_tests) in
        rw (e, f, g, same) (after_said (digits_value 10 field.1) fields)
    step false e true f false g rest = rw (e, f, g) (after_wrong fields ∙ either (list_any has_coding fields) wrong)
    step false e false f d g rest = rw (e, f) rest

-- the error after these further fields
abbrev pub fault_after : BodyLength → List Header → FrameFault
fault_after before [] = NoLength
fault_after before (field ∷ fields) = cond (is_wrong (one before field)) (field_fault field) (fault_after (one before field) fields)

after_append : (before : BodyLength) (some more : List Header) → after before (some ++ more) ≡ after (after before some) more
after_append before [] more = refl
after_append before (field ∷ some) more = after_append (one before field) some more

one_more : (before : List Header) (field : Header) → body_length (before ++ (field ∷ [])) ≡ one (body_length before) field
one_more before field =
    sym (after_all (before ++ (field ∷ []))) ∙ after_append unsaid before (field ∷ []) ∙ ap (λ b. one b field) (after_all before)

faults_behind : (before fields : List Header) → fault_behind before fields ≡ fault_after (body_length before) fields
faults_behind before [] = refl
faults_behind before (field ∷ fields) =
    ap (cond (is_wrong (body_length (before ++ (field ∷ [])))) (field_fault field)) (faults_behind (before ++ (field ∷ [])) fields)
    ∙ ap (λ b. cond (is_wrong b) (field_fault field) (fault_after b fields)) (one_more before field)

pub all_faults : (fields : List Header) → fault_after unsaid fields ≡ length_fault fields
all_faults fields = sym (faults_behind [] fields)

not_wrong : (before : Option (List ℕ)) (x y : FrameFault) → cond (is_wrong (length_of before)) x y ≡ y
not_wrong None x y = refl
not_wrong (Some digits) x y = refl

next : {X : Type 0} (view : X → Header) (before : BodyLength) (headers : List X) (i : ℕ) (d : X) → i < length headers
    → after before (map view (drop i headers)) ≡ after (one before (view (get_or headers i d))) (map view (drop (i + 1) headers))
next view before headers i d within = at_drop_more (λ xs. after before (map view xs)) headers i d within

pub skips : {X : Type 0} (view : X → Header) (before whole : BodyLength) (headers : List X) (i : ℕ) (d : X) → i < length headers
    → has_name transfer_encoding (view (get_or headers i d)).0 ≡ false → has_name content_length (view (get_or headers i d)).0 ≡ false
    → after before (map view (drop i headers)) ≡ whole → after before (map view (drop (i + 1) headers)) ≡ whole
skips view before whole headers i d within e f so_far =
    let same : one before (view (get_or headers i d)) ≡ before = rw (e, f) refl in
    sym (next view before headers i d within ∙ ap (λ b. after b (map view (drop (i + 1) headers))) same) ∙ so_far

next_fault : {X : Type 0} (view : X → Header) (before now : BodyLength) (headers : List X) (i : ℕ) (d : X) → i < length headers
    → one before (view (get_or headers i d)) ≡ now
    → fault_after before (map view (drop i headers)) ≡ cond (is_wrong now) (field_fault (view (get_or headers i d))) (fault_after now (map view (drop (i + 1) headers)))
next_fault view before now headers i d within is =
    let field = view (get_or headers i d) in
    let rest = map view (drop (i + 1) headers) in
    at_drop_more (λ xs. fault_after before (map view xs)) headers i d within ∙ ap (λ b. cond (is_wrong b) (field_fault field) (fault_after b rest)) is

pub skips_fault : {X : Type 0} (view : X → Header) (before : Option (List ℕ)) (fault : FrameFault) (headers : List X) (i : ℕ) (d : X) → i < length headers
    → has_name transfer_encoding (view (get_or headers i d)).0 ≡ false → has_name content_length (view (get_or headers i d)).0 ≡ false
    → fault_after (length_of before) (map view (drop i headers)) ≡ fault → fault_after (length_of before) (map view (drop (i + 1) headers)) ≡ fault
skips_fault view before fault headers i d within e f so_far =
    let same : one (length_of before) (view (get_or headers i d)) ≡ length_of before = rw (e, f) refl in
    sym (next_fault view (length_of before) (length_of before) headers i d within same ∙ not_wrong before _ _) ∙ so_far

pub agrees_numeral : (before : Option (List ℕ)) (value : List ℕ) → agrees before value ≡ true → are_digits value ≡ true
agrees_numeral None value e = e
agrees_numeral (Some digits) value e = (both (are_digits value) (digits_value 10 value == digits_value 10 digits) e).0

agree_agrees : (before : Option (List ℕ)) (value : List ℕ) → agrees before value ≡ true → agree (length_of before) value ≡ said (digits_value 10 value)
agree_agrees None value e = rw e refl
agree_agrees (Some digits) value e =
    let parts = both (are_digits value) (digits_value 10 value == digits_value 10 digits) e in
    let test : (digits_value 10 value == digits_value 10 digits) ≡ true = parts.1 in
    let same : digits_value 10 digits ≡ digits_value 10 value = grind (arith, nat_tests) in
    rw e (ap said same)

agree_differs : (before : Option (List ℕ)) (value : List ℕ) → agrees before value ≡ false → agree (length_of before) value ≡ wrong
agree_differs None value e = rw e refl
agree_differs (Some digits) value e = rw e refl

pub takes_length : {X : Type 0} (view : X → Header) (before : Option (List ℕ)) (whole : BodyLength) (headers : List X) (i : ℕ) (d : X) → i < length headers
    → has_name transfer_encoding (view (get_or headers i d)).0 ≡ false → has_name content_length (view (get_or headers i d)).0 ≡ true
    → agrees before (view (get_or headers i d)).1 ≡ true → after (length_of before) (map view (drop i headers)) ≡ whole
    → after (said (digits_value 10 (view (get_or headers i d)).1)) (map view (drop (i + 1) headers)) ≡ whole
takes_length view before whole headers i d within e f agreeing so_far =
    let field = view (get_or headers i d) in
    let same : one (length_of before) (view (get_or headers i d)) ≡ said (digits_value 10 (view (get_or headers i d)).1) = rw (e, f) (agree_agrees before field.1 agreeing) in
    sym (next view (length_of before) headers i d within ∙ ap (λ b. after b (map view (drop (i + 1) headers))) same) ∙ so_far

pub takes_fault : {X : Type 0} (view : X → Header) (before : Option (List ℕ)) (fault : FrameFault) (headers : List X) (i : ℕ) (d : X) → i < length headers
    → has_name transfer_encoding (view (get_or headers i d)).0 ≡ false → has_name content_length (view (get_or headers i d)).0 ≡ true
    → agrees before (view (get_or headers i d)).1 ≡ true → fault_after (length_of before) (map view (drop i headers)) ≡ fault
    → fault_after (said (digits_value 10 (view (get_or headers i d)).1)) (map view (drop (i + 1) headers)) ≡ fault
takes_fault view before fault headers i d within e f agreeing so_far =
    let field = view (get_or headers i d) in
    let same : one (length_of before) (view (get_or headers i d)) ≡ said (digits_value 10 (view (get_or headers i d)).1) = rw (e, f) (agree_agrees before field.1 agreeing) in
    sym (next_fault view (length_of before) (said (digits_value 10 field.1)) headers i d within same) ∙ so_far

pub meets_coding : {X : Type 0} (view : X → Header) (before whole : BodyLength) (headers : List X) (i : ℕ) (d : X) → i < length headers
    → has_name transfer_encoding (view (get_or headers i d)).0 ≡ true → after before (map view (drop i headers)) ≡ whole → whole ≡ wrong
meets_coding view before whole headers i d within e so_far =
    let same : one before (view (get_or headers i d)) ≡ wrong = rw e refl in
    let rest = map view (drop (i + 1) headers) in
    sym so_far ∙ next view before headers i d within ∙ ap (λ b. after b rest) same ∙ after_wrong rest

pub meets_difference : {X : Type 0} (view : X → Header) (before : Option (List ℕ)) (whole : BodyLength) (headers : List X) (i : ℕ) (d : X) → i < length headers
    → has_name transfer_encoding (view (get_or headers i d)).0 ≡ false → has_name content_length (view (get_or headers i d)).0 ≡ true
    → agrees before (view (get_or headers i d)).1 ≡ false → after (length_of before) (map view (drop i headers)) ≡ whole → whole ≡ wrong
meets_difference view before whole headers i d within e f differing so_far =
    let field = view (get_or headers i d) in
    let same : one (length_of before) (view (get_or headers i d)) ≡ wrong = rw (e, f) (agree_differs before field.1 differing) in
    let rest = map view (drop (i + 1) headers) in
    sym so_far ∙ next view (length_of before) headers i d within ∙ ap (λ b. after b rest) same ∙ after_wrong rest

pub coding_fault : {X : Type 0} (view : X → Header) (before : BodyLength) (fault : FrameFault) (headers : List X) (i : ℕ) (d : X) → i < length headers
    → has_name transfer_encoding (view (get_or headers i d)).0 ≡ true → fault_after before (map view (drop i headers)) ≡ fault → TransferEncoding ≡ fault
coding_fault view before fault headers i d within e so_far =
    let field = view (get_or headers i d) in
    let same : one before (view (get_or headers i d)) ≡ wrong = rw e refl in
    let is : field_fault (view (get_or headers i d)) ≡ TransferEncoding = rw e refl in
    sym is ∙ sym (next_fault view before wrong headers i d within same) ∙ so_far

pub difference_fault : {X : Type 0} (view : X → Header) (before : Option (List ℕ)) (fault : FrameFault) (headers : List X) (i : ℕ) (d : X) → i < length headers
    → has_name transfer_encoding (view (get_or headers i d)).0 ≡ false → has_name content_length (view (get_or headers i d)).0 ≡ true
    → agrees before (view (get_or headers i d)).1 ≡ false → fault_after (length_of before) (map view (drop i headers)) ≡ fault
    → value_fault (view (get_or headers i d)).1 ≡ fault
difference_fault view before fault headers i d within e f differing so_far =
    let field = view (get_or headers i d) in
    let same : one (length_of before) (view (get_or headers i d)) ≡ wrong = rw (e, f) (agree_differs before field.1 differing) in
    let is : field_fault (view (get_or headers i d)) ≡ value_fault (view (get_or headers i d)).1 = rw e refl in
    sym is ∙ sym (next_fault view (length_of before) wrong headers i d within same) ∙ so_far
