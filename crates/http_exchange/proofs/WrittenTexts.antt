-- Requests and replies, as they are written, carry their bodies.
use Rattle.std.proofs.Common.{◌≡◌, ℕ, zero, suc, ◌+◌, ◌^◌, ◌<◌, ◌≤◌, Bool, true, false, List, [], ◌∷◌, ◌++◌, length, reverse, Some, refl, sym, ap, subst, ◌∙◌, arith, length-append, append_assoc, append-nil, get_or, lit<}
use Rattle.std.specs.Prelude.{codes, nat_lt, ◌==◌, All, IsUtf8}
use Rattle.std.specs.Char.{is_ascii_digit}
use Rattle.std.specs.Fmt.{decimal}
use Rattle.std.specs.List.{list_all, AllPass}
use Rattle.std.specs.Str.Parse.{digits_value, AllDigits}
use Rattle.std.proofs.lemmas.Bool.Decides.{nat_tests}
use Rattle.std.proofs.lemmas.Fmt.{decimal_is_IsNumeral, length-decimal-le}
use Rattle.std.proofs.lemmas.List.{take-append-le, take_all}
use Rattle.std.proofs.lemmas.List.Sums.{AllPass-from_list_all, list_all-from_AllPass}
use Rattle.std.proofs.lemmas.Str.{IsUtf8-from_ascii}
use Rattle.std.proofs.lemmas.Str.Parse.{digit_from_value}
use Rattle.httparse.specs.Grammar.{is_token_byte, is_uri_byte, is_value_byte, is_ows, skip_ows, trim_ows, Field, IsField, print_field, crlf, ResponseHead, print_response, RequestHead, print_request}
use Rattle.httparse.proofs.TrimLemmas.{trim_ows_space}
use Rattle.http_exchange.specs.BodyLength.{BodyLength, said, agreed}
use Rattle.http_exchange.specs.HttpHead.{reply_parts, request_parts, max_body}
use Rattle.http_exchange.specs.HttpText.{line_end, line, field, described_body, reply_text, request_text}
use Rattle.http_exchange.specs.Carried.{Follows}
use Rattle.http_exchange.specs.WireLaws.{ReplyIsCarried, RequestIsCarried}
use Rattle.http_exchange.specs.declared.head.HttpKind.{HttpKind}
use Rattle.http_exchange.specs.declared.head.HttpKind.TheVariants.{Reply, Request}
use Rattle.http_exchange.proofs.Lengths.{all_reverse}
use Rattle.game_core.specs.Numerals.{are_digits}
use Rattle.std.proofs.lemmas.Bool.{and_parts as both}

-- ---- The length

all_digits : (digits : List ℕ) → AllDigits 10 digits → list_all is_ascii_digit digits ≡ true
all_digits [] h = refl
all_digits (x ∷ xs) h =
    let range = digit_from_value x h.0 in
    let test : is_ascii_digit x ≡ true = grind (arith, nat_tests, range) in
    rw (test, all_digits xs h.1) refl

digits_of_decimal : (n : ℕ) → n < 2 ^ 64 → (list_all is_ascii_digit (decimal n) ≡ true) × (are_digits (decimal n) ≡ true) × (digits_value 10 (decimal n) ≡ n)
digits_of_decimal n small =
    let numeral = decimal_is_IsNumeral n small in
    let digits = all_digits (decimal n) numeral.0.1 in
    let long = numeral.0.0 in
    let some : nat_lt 0 (length (decimal n)) ≡ true = grind (arith, nat_tests) in
    (digits, rw (some, digits) refl, numeral.1)

no_white : (x : ℕ) → is_ascii_digit x ≡ true → is_ows x ≡ false
no_white x e = grind (arith, nat_tests)

digit_of_value : (x : ℕ) → is_ascii_digit x ≡ true → is_value_byte x ≡ true
digit_of_value x e = grind (arith, nat_tests)

skips_nothing : (digits : List ℕ) → list_all is_ascii_digit digits ≡ true → skip_ows digits ≡ digits
skips_nothing [] e = refl
skips_nothing (x ∷ xs) e = rw (no_white x (both (is_ascii_digit x) (list_all is_ascii_digit xs) e).0) refl

all_values : (digits : List ℕ) → list_all is_ascii_digit digits ≡ true → list_all is_value_byte digits ≡ true
all_values [] e = refl
all_values (x ∷ xs) e =
    let parts = both (is_ascii_digit x) (list_all is_ascii_digit xs) e in
    rw (digit_of_value x parts.0, all_values xs parts.1) refl

trimmed : (digits : List ℕ) → list_all is_ascii_digit digits ≡ true → trim_ows (32 ∷ digits) ≡ digits
trimmed digits e = trim_ows_space digits (skips_nothing digits e) (skips_nothing (reverse digits) (all_reverse digits e))

agreed_alone : (digits : List ℕ) → are_digits digits ≡ true → agreed (digits ∷ []) ≡ said (digits_value 10 digits)
agreed_alone digits e =
    let same : (digits_value 10 digits == digits_value 10 digits) ≡ true = grind (arith, nat_tests) in
    rw (e, same) refl

-- the length as it is written in a field
length_alone : (n : ℕ) → n < 2 ^ 64 → agreed (trim_ows (32 ∷ decimal n) ∷ []) ≡ said n
length_alone n small =
    let digits = digits_of_decimal n small in
    ap (λ (v : List ℕ). agreed (v ∷ [])) (trimmed (decimal n) digits.0) ∙ agreed_alone (decimal n) digits.1 ∙ ap said digits.2

-- ---- Fields

abbrev plain : List ℕ → List ℕ → Field
plain name value = record { name = name; raw = 32 ∷ value; end = crlf }

is_plain : (name value : List ℕ) → 0 < length name → list_all is_token_byte name ≡ true → list_all is_value_byte value ≡ true → IsField (plain name value)
is_plain name value some token bytes = record {
  name = (some, AllPass-from_list_all is_token_byte name token);
  raw = AllPass-from_list_all is_value_byte (32 ∷ value) bytes;
}

printed_field : (name value : List ℕ) → print_field (plain name value) ≡ field name value
unfolding line field
printed_field name value = ap (λ l. l ++ line_end) (sym (append_assoc name (codes ": ") value))

field_size : (name value : List ℕ) → length (field name value) ≡ length name + length value + 4
unfolding line field
field_size name value = simp length-append (omega arith)

all_two : (a b : Field) → IsField a → IsField b → All IsField (a ∷ (b ∷ []))
all_two a b p q zero d within = p
all_two a b p q (suc zero) d within = q
all_two a b p q (suc (suc k)) d within = absurd (omega arith)

all_more : (a : Field) (fs : List Field) → IsField a → All IsField fs → All IsField (a ∷ fs)
all_more a fs p q zero d within = p
all_more a fs p q (suc k) d within = q k d (omega arith)

-- ---- The reply

abbrev described : List ℕ → List Field
described digits = plain (codes "Content-Type") (codes "text/acl") ∷ (plain (codes "Content-Length") digits ∷ [])

abbrev reply_head_of : List ℕ → ResponseHead
reply_head_of digits = record {
  blank = [];
  minor = 0;
  digits = codes "200";
  reason = Some (codes "OK");
  line_end = crlf;
  fields = described digits;
  last = crlf;
}

reply_printed : (digits : List ℕ) → print_response (reply_head_of digits)
    ≡ line (codes "HTTP/1.0 200 OK") ++ ((field (codes "Content-Type") (codes "text/acl") ++ (field (codes "Content-Length") digits ++ [])) ++ line [])
unfolding print_response line
reply_printed digits =
    let kind = printed_field (codes "Content-Type") (codes "text/acl") in
    let length = printed_field (codes "Content-Length") digits in
    (λ i. line (codes "HTTP/1.0 200 OK") ++ ((kind i ++ (length i ++ [])) ++ line []))

reply_regrouped : (l c d e body more : List ℕ) → (l ++ (((c ++ d) ++ e) ++ body)) ++ more ≡ (l ++ ((c ++ (d ++ [])) ++ e)) ++ (body ++ more)
reply_regrouped l c d e body more = simp (append_assoc, append-nil)

described_fields : (digits : List ℕ) → list_all is_ascii_digit digits ≡ true → All IsField (described digits)
unfolding is_token_byte
described_fields digits e =
    all_two _ _ (is_plain (codes "Content-Type") (codes "text/acl") (omega arith) refl refl)
    (is_plain (codes "Content-Length") digits (omega arith) refl (all_values digits e))

reply_size : (digits : List ℕ) → length (print_response (reply_head_of digits)) ≡ 61 + length digits
unfolding line
reply_size digits = ap length (reply_printed digits) ∙ simp (length-append, field_size) (omega arith)

-- ---- What follows the head

follows_exactly : (kind : HttpKind) (body more : List ℕ) (ended : Bool) → length body ≤ max_body kind → Follows kind (said (length body)) (body ++ more) ended body
follows_exactly kind body more ended small =
    let n = length body in
    (small, omega (arith, length-append body more), sym (take-append-le n body more (omega arith) ∙ take_all n body (omega arith)))

pub reply_is_carried : ReplyIsCarried
unfolding described_body
reply_is_carried body more ended small =
    let n = length body in
    let fits : length body < 2 ^ 64 = omega arith in
    let digits = digits_of_decimal n fits in
    let head = reply_head_of (decimal n) in
    let reads : reply_text body ++ more ≡ print_response (reply_head_of (decimal (length body))) ++ (body ++ more) =
    reply_regrouped (line (codes "HTTP/1.0 200 OK")) (field (codes "Content-Type") (codes "text/acl")) (field (codes "Content-Length") (decimal n)) (line []) body more
    ∙ ap (λ p. p ++ (body ++ more)) (sym (reply_printed (decimal n))) in
    let few_digits = length-decimal-le 6 n (omega arith) (omega arith) fits in
    let size = reply_size (decimal n) in
    record {
      head = reply_parts head;
      rest = body ++ more;
      reads = (
        head,
        (
          record {
            minor = omega arith;
            digits = (refl, AllPass-from_list_all is_ascii_digit (codes "200") refl);
            reason = AllPass-from_list_all is_value_byte (codes "OK") refl;
            fields = described_fields (decimal n) digits.0;
          },
          reads,
        ),
        refl,
      );
      small = omega arith;
      few = omega arith;
      taken = refl;
      follows = subst (λ (l : BodyLength). Follows Reply l (body ++ more) ended body) (sym (length_alone n fits)) (follows_exactly Reply body more ended small);
    }

-- ---- The request

abbrev request_head_of : List ℕ → List ℕ → RequestHead
request_head_of player digits = record {
  blank = [];
  method = codes "POST";
  target = codes "/";
  minor = 0;
  line_end = crlf;
  fields = plain (codes "Accept") (codes "text/delim") ∷ (plain (codes "Sender") (codes "GAMESERVER") ∷ (plain (codes "Receiver") player ∷ described digits));
  last = crlf;
}

request_printed : (player digits : List ℕ) → print_request (request_head_of player digits)
    ≡ line (codes "POST / HTTP/1.0")
    ++ ((field (codes "Accept") (codes "text/delim") ++ (field (codes "Sender") (codes "GAMESERVER") ++ (field (codes "Receiver") player
    ++ (field (codes "Content-Type") (codes "text/acl") ++ (field (codes "Content-Length") digits ++ []))))) ++ line [])
unfolding print_request line
request_printed player digits =
    let accept = printed_field (codes "Accept") (codes "text/delim") in
    let sender = printed_field (codes "Sender") (codes "GAMESERVER") in
    let receiver = printed_field (codes "Receiver") player in
    let kind = printed_field (codes "Content-Type") (codes "text/acl") in
    let length = printed_field (codes "Content-Length") digits in
    (λ i. line (codes "POST / HTTP/1.0") ++ ((accept i ++ (sender i ++ (receiver i ++ (kind i ++ (length i ++ []))))) ++ line []))

request_regrouped : (l a s r c d e body more : List ℕ)
    → ((((l ++ a) ++ s) ++ r) ++ (((c ++ d) ++ e) ++ body)) ++ more ≡ (l ++ ((a ++ (s ++ (r ++ (c ++ (d ++ []))))) ++ e)) ++ (body ++ more)
request_regrouped l a s r c d e body more = simp (append_assoc, append-nil)

request_size : (player digits : List ℕ) → length (print_request (request_head_of player digits)) ≡ 113 + length player + length digits
unfolding line
request_size player digits = ap length (request_printed player digits) ∙ simp (length-append, field_size) (omega arith)

request_fields : (player digits : List ℕ) → AllPass is_value_byte player → list_all is_ascii_digit digits ≡ true → All IsField (request_head_of player digits).fields
unfolding is_token_byte
request_fields player digits bytes e =
    let receiver = plain (codes "Receiver") player ∷ described digits in
    let sender = plain (codes "Sender") (codes "GAMESERVER") ∷ receiver in
    all_more _ sender (is_plain (codes "Accept") (codes "text/delim") (omega arith) refl refl)
    (all_more _ receiver (is_plain (codes "Sender") (codes "GAMESERVER") (omega arith) refl refl)
    (all_more _ (described digits) (is_plain (codes "Receiver") player (omega arith) refl (list_all-from_AllPass is_value_byte player bytes)) (described_fields digits e)))

target_is_ascii : (i : ℕ) → get_or (codes "/") i 0 < 128
target_is_ascii zero = lit< tt
target_is_ascii (suc i) = lit< tt

target_is_text : IsUtf8 (codes "/")
target_is_text = IsUtf8-from_ascii (codes "/") target_is_ascii

pub request_is_carried : RequestIsCarried
unfolding described_body is_token_byte
request_is_carried player body more ended bytes short small =
    let n = length body in
    let fits : length body < 2 ^ 64 = omega arith in
    let digits = digits_of_decimal n fits in
    let head = request_head_of player (decimal n) in
    let reads : request_text player body ++ more ≡ print_request (request_head_of player (decimal (length body))) ++ (body ++ more) =
    request_regrouped (line (codes "POST / HTTP/1.0")) (field (codes "Accept") (codes "text/delim")) (field (codes "Sender") (codes "GAMESERVER")) (field (codes "Receiver") player)
    (field (codes "Content-Type") (codes "text/acl")) (field (codes "Content-Length") (decimal n)) (line []) body more
    ∙ ap (λ p. p ++ (body ++ more)) (sym (request_printed player (decimal n))) in
    let few_digits = length-decimal-le 7 n (omega arith) (omega arith) fits in
    let size = request_size player (decimal n) in
    record {
      head = request_parts head;
      rest = body ++ more;
      reads = (
        head,
        (
          record {
            method = (omega arith, AllPass-from_list_all is_token_byte (codes "POST") refl);
            target = (omega arith, AllPass-from_list_all is_uri_byte (codes "/") refl);
            target_text = target_is_text;
            minor = omega arith;
            fields = request_fields player (decimal n) bytes digits.0;
          },
          reads,
        ),
        refl,
      );
      small = omega arith;
      few = omega arith;
      taken = refl;
      follows = subst (λ (l : BodyLength). Follows Request l (body ++ more) ended body) (sym (length_alone n fits)) (follows_exactly Request body more ended small);
    }
