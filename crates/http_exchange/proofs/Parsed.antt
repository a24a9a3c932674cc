-- From the parser's result for the front of the bytes to what the bytes say about the head.
use Rattle.std.proofs.Common.{◌≡◌, ◌≢◌, ℕ, true, false, ◌<◌, ◌≤◌, Bool, cond, List, length, map, take, drop, Some, None, refl, sym, ap, subst, ◌∙◌, arith, inl, inr, length-take}
use Rattle.std.specs.Prelude.{◌==◌, not}
use Rattle.std.proofs.lemmas.Bool.Decides.{nat_tests}
use Rattle.std.specs.Str.{bytes_eq}
use Rattle.std.proofs.lemmas.List.{length-map}
use Rattle.httparse.specs.declared.Error.{Error}
use Rattle.httparse.specs.declared.Error.TheVariants.{HeaderName, HeaderValue, NewLine, Status, Token, TooManyHeaders, Version}
use Rattle.httparse.specs.declared.spans.HeaderSpan.{HeaderSpan}
use Rattle.httparse.specs.declared.spans.ResponseSpans.{ResponseSpans}
use Rattle.httparse.specs.declared.spans.RequestSpans.{RequestSpans}
use Rattle.httparse.specs.Grammar.{Field, HasNoResponse, NeverHasResponse, MayBecomeResponse, HasNoRequest, NeverHasRequest, MayBecomeRequest}
use Rattle.httparse.specs.Spans.{IsResponseOf, IsRequestOf, ResponseOverflows, RequestOverflows, ResponseExceeds, RequestExceeds, AreFieldsAt, header_bytes, name_and_value, span_bytes}
use Rattle.http_exchange.specs.BodyLength.{body_length, length_fault}
use Rattle.http_exchange.specs.HttpHead.{Parts, Reads, HeadIs, IsHopeless, IsBadIn, NeverHasHead, HasManyFields, MayBecomeHead, HasNoHead, reply_parts, request_parts, unless_refused, framed_by, front, good_status, post, max_fields}
use Rattle.http_exchange.specs.Internal.Heads.{part_of}
use Rattle.http_exchange.specs.declared.head.HttpKind.{HttpKind}
use Rattle.http_exchange.specs.declared.head.HttpKind.TheVariants.{Reply, Request}
use Rattle.http_exchange.specs.declared.head.Head.{Head}
use Rattle.http_exchange.specs.declared.head.Head.TheVariants.{Unfinished, Bad, Refused}
use Rattle.http_exchange.specs.declared.head.HeadPart.{HeadPart}
use Rattle.http_exchange.specs.declared.head.HeadPart.TheVariants.{Method, FieldCount}
use Rattle.http_exchange.specs.declared.wire_fault.FrameFault.TheVariants.{BadHead, BadStatus}

few_fields : (text : List ℕ) (headers : List HeaderSpan) (count : ℕ) (fields : List Field) → AreFieldsAt text headers count fields
    → length headers ≤ 64 → length (map name_and_value fields) ≤ 64
few_fields text headers count fields are room =
    let same : length (map (header_bytes text) (take count headers)) ≡ length (map name_and_value fields) = ap length are in
    let short : length (map (header_bytes text) (take count headers)) ≡ length (take count headers) = simp length-map in
    omega (arith, length-take count headers)

pub reply_whole : (bytes text : List ℕ) (headers : List HeaderSpan) (spans : ResponseSpans) (head : Head) → text ≡ front bytes
    → length headers ≤ 64 → IsResponseOf text headers spans
    → head ≡ unless_refused (cond (spans.code == good_status) None (Some (BadStatus spans.code))) (framed_by Reply spans.len (length_fault (map (header_bytes text) (take spans.headers headers))) (body_length (map (header_bytes text) (take spans.headers headers))))
    → HeadIs Reply bytes head
reply_whole bytes text headers spans head is_front room of is =
    let h = of.0 in
    let at = of.1 in
    inl (
      reply_parts h,
      drop spans.len text,
      subst (λ (l : List ℕ). Reads Reply l (reply_parts h) (drop spans.len text)) is_front (h, at.reads, refl),
      few_fields text headers spans.headers h.fields at.fields room,
      is ∙ (λ i. unless_refused (cond (at.code i == good_status) None (Some (BadStatus (at.code i)))) (framed_by Reply (at.len i) (length_fault (at.fields i)) (body_length (at.fields i)))),
    )

pub request_whole : (bytes text : List ℕ) (headers : List HeaderSpan) (spans : RequestSpans) (head : Head) → text ≡ front bytes
    → length headers ≤ 64 → IsRequestOf text headers spans
    → head ≡ unless_refused (cond (bytes_eq (span_bytes text spans.method) post) None (Some BadHead)) (framed_by Request spans.len (length_fault (map (header_bytes text) (take spans.headers headers))) (body_length (map (header_bytes text) (take spans.headers headers))))
    → HeadIs Request bytes head
request_whole bytes text headers spans head is_front room of is =
    let h = of.0 in
    let at = of.1 in
    inl (
      request_parts h,
      drop spans.len text,
      subst (λ (l : List ℕ). Reads Request l (request_parts h) (drop spans.len text)) is_front (h, at.reads, refl),
      few_fields text headers spans.headers h.fields at.fields room,
      is ∙ (λ i. unless_refused (cond (bytes_eq (at.method i) post) None (Some BadHead)) (framed_by Request (at.len i) (length_fault (at.fields i)) (body_length (at.fields i)))),
    )

head_unfinished : (kind : HttpKind) (bytes text : List ℕ) → text ≡ front bytes → HasNoHead kind text → MayBecomeHead kind text
    → HeadIs kind bytes Unfinished
head_unfinished kind bytes text is_front none may =
    inr (inr (subst (HasNoHead kind) is_front none, subst (MayBecomeHead kind) is_front may, refl))

head_hopeless : (kind : HttpKind) (bytes text : List ℕ) (part : HeadPart) → text ≡ front bytes → IsHopeless kind text → IsBadIn kind text part
    → HeadIs kind bytes (Bad part)
head_hopeless kind bytes text part is_front hopeless bad =
    inr (inl (subst (IsHopeless kind) is_front hopeless, part, subst (λ (l : List ℕ). IsBadIn kind l part) is_front bad, refl))

pub reply_unfinished : (bytes text : List ℕ) → text ≡ front bytes → HasNoResponse text → MayBecomeResponse text → HeadIs Reply bytes Unfinished
reply_unfinished bytes text is_front none may =
    head_unfinished Reply bytes text is_front (λ parts rest reads. none reads.0 rest reads.1) may

pub request_unfinished : (bytes text : List ℕ) → text ≡ front bytes → HasNoRequest text → MayBecomeRequest text → HeadIs Request bytes Unfinished
request_unfinished bytes text is_front none may =
    head_unfinished Request bytes text is_front (λ parts rest reads. none reads.0 rest reads.1) may

many : (parts : Parts) (fields : List Field) → parts.fields ≡ map name_and_value fields → max_fields < length fields → max_fields < length parts.fields
many parts fields is h =
    let same : length parts.fields ≡ length fields = ap length is ∙ simp length-map in
    omega arith

too_many : (error : Error) → part_of error ≡ FieldCount → error ≡ TooManyHeaders
too_many TooManyHeaders is = refl
too_many HeaderName is = absurd (cc)
too_many HeaderValue is = absurd (cc)
too_many NewLine is = absurd (cc)
too_many Status is = absurd (cc)
too_many Token is = absurd (cc)
too_many Version is = absurd (cc)

bad_in : (kind : HttpKind) (text : List ℕ) (error : Error) → (error ≢ TooManyHeaders → NeverHasHead kind text)
    → (error ≡ TooManyHeaders → HasManyFields kind text) → IsBadIn kind text (part_of error)
bad_in kind text error invalid exceeds = (λ is. exceeds (too_many error is), λ differs. invalid (λ is. differs (ap part_of is)))

pub reply_hopeless : (bytes text : List ℕ) (error : Error) → text ≡ front bytes → ResponseOverflows 64 text
    → (error ≢ TooManyHeaders → NeverHasResponse text) → (error ≡ TooManyHeaders → ResponseExceeds 64 text) → HeadIs Reply bytes (Bad (part_of error))
reply_hopeless bytes text error is_front over invalid exceeds =
    head_hopeless Reply bytes text (part_of error) is_front
    (λ more parts rest reads. many parts reads.0.fields (ap (λ (p : Parts). p.fields) reads.2) (over more reads.0 rest reads.1))
    (bad_in Reply text error (λ differs more parts rest reads. invalid differs more reads.0 rest reads.1) (λ is. exceeding (exceeds is)))
  where
    exceeding : ResponseExceeds 64 text → HasManyFields Reply text
    exceeding it = (it.0, it.1, it.2, reply_parts it.3, (it.3, it.4, refl), many (reply_parts it.3) it.3.fields refl it.5)

pub request_hopeless : (bytes text : List ℕ) (error : Error) → text ≡ front bytes → RequestOverflows 64 text
    → (error ≢ TooManyHeaders → NeverHasRequest text) → (error ≡ TooManyHeaders → RequestExceeds 64 text) → HeadIs Request bytes (Bad (part_of error))
request_hopeless bytes text error is_front over invalid exceeds =
    head_hopeless Request bytes text (part_of error) is_front
    (λ more parts rest reads. many parts reads.0.fields (ap (λ (p : Parts). p.fields) reads.2) (over more reads.0 rest reads.1))
    (bad_in Request text error (λ differs more parts rest reads. invalid differs more reads.0 rest reads.1) (λ is. exceeding (exceeds is)))
  where
    exceeding : RequestExceeds 64 text → HasManyFields Request text
    exceeding it = (it.0, it.1, it.2, request_parts it.3, (it.3, it.4, refl), many (request_parts it.3) it.3.fields refl it.5)

pub bad_status : (code : ℕ) (head : Head) → code ≢ good_status → Refused (BadStatus code) ≡ unless_refused (cond (code == good_status) None (Some (BadStatus code))) head
bad_status code head differs =
    let test : (code == 200) ≡ false = grind (arith, nat_tests) in
    rw test refl

pub status_is_good : (code : ℕ) (result head : Head) → code ≡ good_status → result ≡ head → result ≡ unless_refused (cond (code == good_status) None (Some (BadStatus code))) head
status_is_good code result head good same =
    let test : (code == 200) ≡ true = grind (arith, nat_tests) in
    rw test same

not_true : (b : Bool) → not b ≡ true → b ≡ false
not_true true e = absurd (cc)
not_true false e = refl

not_false : (b : Bool) → not b ≡ false → b ≡ true
not_false true e = refl
not_false false e = absurd (cc)

pub bad_method : (differs : Bool) (seen method : List ℕ) (head : Head) → differs ≡ not (bytes_eq seen post) → seen ≡ method → differs ≡ true
    → Bad Method ≡ unless_refused (cond (bytes_eq method post) None (Some BadHead)) head
bad_method differs seen method head is same differing =
    let test : bytes_eq method post ≡ false = sym (ap (λ s. bytes_eq s post) same) ∙ not_true (bytes_eq seen post) (sym is ∙ differing) in
    ap (λ (b : Bool). unless_refused (cond b None (Some BadHead)) head) (sym test)

pub method_is_post : (differs : Bool) (seen method : List ℕ) (result head : Head) → differs ≡ not (bytes_eq seen post) → seen ≡ method → differs ≡ false
    → result ≡ head → result ≡ unless_refused (cond (bytes_eq method post) None (Some BadHead)) head
method_is_post differs seen method result head is same agreeing one =
    let test : bytes_eq method post ≡ true = sym (ap (λ s. bytes_eq s post) same) ∙ not_false (bytes_eq seen post) (sym is ∙ agreeing) in
    one ∙ ap (λ (b : Bool). unless_refused (cond b None (Some BadHead)) head) (sym test)
