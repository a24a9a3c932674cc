-- Heads at the front of bytes, for replies and requests.
use Rattle.std.proofs.Common.{◌≡◌, ℕ, zero, suc, ◌+◌, ◌-◌, ◌<◌, ◌≤◌, Bool, true, false, cond, List, [], ◌∷◌, ◌++◌, length, take, drop, Option, Some, None, refl, sym, ap, subst, ◌∙◌, arith, inl, inr, length-append, append_assoc, length-take}
use Rattle.std.specs.Prelude.{◌⊎◌, nat_le}
use Rattle.std.proofs.lemmas.List.{append-nil, drop_at, take_all}
use Rattle.httparse.specs.Grammar.{ResponseHead, RequestHead, print_response, print_request}
use Rattle.httparse.proofs.GrammarLemmas.{response_unique, request_unique}
use Rattle.http_exchange.specs.BodyLength.{BodyLength, unsaid, said, wrong, body_length, length_fault}
use Rattle.http_exchange.specs.HttpHead.{Parts, Reads, IsHopeless, IsBadIn, NeverHasHead, HasManyFields, HeadIs, framed, framed_by, unless_refused, reply_parts, request_parts, front, max_head, max_body, max_fields}
use Rattle.http_exchange.specs.Internal.Heads.{IsKnown, StartsWithin}
use Rattle.http_exchange.specs.declared.head.HttpKind.{HttpKind}
use Rattle.http_exchange.specs.declared.head.HttpKind.TheVariants.{Reply, Request}
use Rattle.http_exchange.specs.declared.head.Head.{Head}
use Rattle.http_exchange.specs.declared.head.HeadPart.{HeadPart}
use Rattle.http_exchange.specs.declared.head.HeadPart.TheVariants.{Method}
use Rattle.http_exchange.specs.declared.head.Head.TheVariants.{Whole, Bad, Refused}
use Rattle.http_exchange.specs.declared.wire_fault.FrameFault.{FrameFault}
use Rattle.http_exchange.specs.declared.wire_fault.FrameFault.TheVariants.{BadHead, BadStatus, TransferEncoding, NoNumber, TwoLengths, NoLength, TooLong, CutShort}

-- the bytes of a head, and the rest
pub record Split (kind : HttpKind) (bytes : List ℕ) (parts : Parts) (rest : List ℕ) : Type 0 where
  pub text : List ℕ
  pub is : bytes ≡ text ++ rest
  pub size : length text ≡ parts.size
  pub before_any : (more : List ℕ) → Reads kind (text ++ more) parts more

pub split : (kind : HttpKind) (bytes : List ℕ) (parts : Parts) (rest : List ℕ) → Reads kind bytes parts rest → Split kind bytes parts rest
split Reply bytes parts rest reads = record {
  text = print_response reads.0;
  is = reads.1.1;
  size = sym (ap (λ (p : Parts). p.size) reads.2);
  before_any = λ more. (reads.0, (reads.1.0, refl), reads.2);
}
split Request bytes parts rest reads = record {
  text = print_request reads.0;
  is = reads.1.1;
  size = sym (ap (λ (p : Parts). p.size) reads.2);
  before_any = λ more. (reads.0, (reads.1.0, refl), reads.2);
}

pub one_head : (kind : HttpKind) (bytes : List ℕ) (p q : Parts) (r s : List ℕ) → Reads kind bytes p r → Reads kind bytes q s → (p ≡ q) × (r ≡ s)
one_head Reply bytes p q r s a b =
    let same = response_unique bytes a.0 b.0 r s a.1 b.1 in
    (a.2 ∙ ap reply_parts same.0 ∙ sym b.2, same.1)
one_head Request bytes p q r s a b =
    let same = request_unique bytes a.0 b.0 r s a.1 b.1 in
    (a.2 ∙ ap request_parts same.0 ∙ sym b.2, same.1)

some_response : (h : ResponseHead) → 0 < length (print_response h)
unfolding print_response
some_response h = simp length-append (omega arith)

some_request : (h : RequestHead) → 0 < length (print_request h)
unfolding print_request
some_request h = simp length-append (omega arith)

some_text : (kind : HttpKind) (bytes : List ℕ) (parts : Parts) (rest : List ℕ) → Reads kind bytes parts rest → 0 < parts.size
some_text Reply bytes parts rest reads = subst (λ (n : ℕ). 0 < n) (sym (ap (λ (p : Parts). p.size) reads.2)) (some_response reads.0)
some_text Request bytes parts rest reads = subst (λ (n : ℕ). 0 < n) (sym (ap (λ (p : Parts). p.size) reads.2)) (some_request reads.0)

-- where the rest begins
pub placed : (kind : HttpKind) (bytes : List ℕ) (parts : Parts) (rest : List ℕ) → Reads kind bytes parts rest
    → (rest ≡ drop parts.size bytes) × (length bytes ≡ parts.size + length rest)
placed kind bytes parts rest reads =
    let s = split kind bytes parts rest reads in
    (sym (ap (drop parts.size) s.is ∙ drop_at s.text rest parts.size s.size), ap length s.is ∙ length-append s.text rest ∙ ap (λ n. n + length rest) s.size)

pub none_in_nothing : (kind : HttpKind) (parts : Parts) (rest : List ℕ) → Reads kind [] parts rest → ⊥
none_in_nothing kind parts rest reads =
    let some = some_text kind [] parts rest reads in
    let whole = (placed kind [] parts rest reads).1 in
    omega arith

-- more bytes do not change the head
pub reads_on : (kind : HttpKind) (bytes : List ℕ) (parts : Parts) (rest more : List ℕ) → Reads kind bytes parts rest
    → Reads kind (bytes ++ more) parts (rest ++ more)
reads_on kind bytes parts rest more reads =
    let s = split kind bytes parts rest reads in
    subst (λ (l : List ℕ). Reads kind l parts (rest ++ more)) (sym (ap (λ l. l ++ more) s.is ∙ append_assoc s.text rest more)) (s.before_any (rest ++ more))

pub front_split : (xs : List ℕ) (n : ℕ) (ys : List ℕ) → take n (xs ++ ys) ≡ take n xs ++ take (n - length xs) ys
front_split [] zero ys = refl
front_split [] (suc n) ys = let same : suc n ≡ suc n - 0 = omega arith in ap (λ k. take k ys) same
front_split (x ∷ xs) zero ys = let none : 0 - suc (length xs) ≡ 0 = omega arith in ap (λ k. take k ys) (sym none)
front_split (x ∷ xs) (suc n) ys =
    let same : suc n - suc (length xs) ≡ n - length xs = omega arith in
    ap (λ (l : List ℕ). x ∷ l) (front_split xs n ys ∙ ap (λ k. take n xs ++ take k ys) (sym same))

-- cutting the bytes after the head does not change it
pub reads_cut : (kind : HttpKind) (n : ℕ) (bytes : List ℕ) (parts : Parts) (rest : List ℕ) → Reads kind bytes parts rest → parts.size ≤ n
    → Reads kind (take n bytes) parts (take (n - parts.size) rest)
reads_cut kind n bytes parts rest reads small =
    let s = split kind bytes parts rest reads in
    let inside : length s.text ≤ n = omega (arith, s.size) in
    let whole : take n s.text ≡ s.text = take_all n s.text inside in
    let cut : take n bytes ≡ s.text ++ take (n - parts.size) rest =
    ap (take n) s.is ∙ front_split s.text n rest ∙ ap (λ l. l ++ take (n - length s.text) rest) whole ∙ ap (λ k. s.text ++ take (n - k) rest) s.size in
    subst (λ (l : List ℕ). Reads kind l parts (take (n - parts.size) rest)) (sym cut) (s.before_any (take (n - parts.size) rest))

pub refused_first : (r : FrameFault) (head : Head) → (unless_refused (Some r) head ≡ Bad Method) ⊎ (unless_refused (Some r) head ≡ Refused r)
refused_first BadHead head = inl refl
refused_first (BadStatus status) head = inr refl
refused_first TransferEncoding head = inr refl
refused_first NoNumber head = inr refl
refused_first TwoLengths head = inr refl
refused_first NoLength head = inr refl
refused_first TooLong head = inr refl
refused_first CutShort head = inr refl

-- ---- Where a body begins

starts_by : (b : Bool) (size n m : ℕ) → size ≤ n → StartsWithin n (cond b (Whole (record { start = size; length = Some m })) (Refused TooLong))
starts_by true size n m h = h
starts_by false size n m h = tt

starts_framed_by : (kind : HttpKind) (size n : ℕ) (fault : FrameFault) (l : BodyLength) → size ≤ n → StartsWithin n (framed_by kind size fault l)
starts_framed_by kind size n fault wrong h = tt
starts_framed_by kind size n fault (said m) h = starts_by (nat_le m (max_body kind)) size n m h
starts_framed_by Reply size n fault unsaid h = h
starts_framed_by Request size n fault unsaid h = tt

starts_unless : (r : Option FrameFault) (n : ℕ) (head : Head) → StartsWithin n head → StartsWithin n (unless_refused r head)
starts_unless None n head h = h
starts_unless (Some refusal) n head h =
    elim (refused_first refusal head) [
      | inl bad ↦ subst (StartsWithin n) (sym bad) tt
      | inr other ↦ subst (StartsWithin n) (sym other) tt
    ]

pub starts : (kind : HttpKind) (bytes : List ℕ) (head : Head) → HeadIs kind bytes head → StartsWithin (length bytes) head
starts kind bytes head is =
    elim is [
      | inl whole ↦
          let parts = whole.0 in
          let size = (placed kind (front bytes) parts whole.1 whole.2).1 in
          let inside : parts.size ≤ length bytes = omega (arith, size, length-take max_head bytes) in
          subst (StartsWithin (length bytes)) (sym whole.4) (starts_unless parts.refusal (length bytes) (framed_by kind parts.size (length_fault parts.fields) (body_length parts.fields)) (starts_framed_by kind parts.size (length bytes) (length_fault parts.fields) (body_length parts.fields) inside))
      | inr other ↦
          elim other [
            | inl hopeless ↦ subst (StartsWithin (length bytes)) (sym hopeless.3) tt
            | inr unfinished ↦ subst (StartsWithin (length bytes)) (sym unfinished.2) tt
          ]
    ]

-- ---- A result for a head stays the same

front_on : (bytes more : List ℕ) → front (bytes ++ more) ≡ front bytes ++ take (max_head - length bytes) more
front_on bytes more = front_split bytes max_head more

hopeless_on : (kind : HttpKind) (bytes more : List ℕ) → IsHopeless kind bytes → IsHopeless kind (bytes ++ more)
hopeless_on kind bytes more h later parts rest reads =
    h (more ++ later) parts rest (subst (λ (l : List ℕ). Reads kind l parts rest) (append_assoc bytes more later) reads)

bad_on : (kind : HttpKind) (bytes more : List ℕ) (part : HeadPart) → IsBadIn kind bytes part → IsBadIn kind (bytes ++ more) part
bad_on kind bytes more part h = (λ e. many_on (h.0 e), λ differs. never_on (h.1 differs))
  where
    never_on : NeverHasHead kind bytes → NeverHasHead kind (bytes ++ more)
    never_on never later parts rest reads =
        never (more ++ later) parts rest (subst (λ (l : List ℕ). Reads kind l parts rest) (append_assoc bytes more later) reads)

    many_on : HasManyFields kind bytes → HasManyFields kind (bytes ++ more)
    many_on many = (many.0, many.1 ++ more, ap (λ l. l ++ more) many.2 ∙ append_assoc many.0 many.1 more, many.3, many.4, many.5)

pub head_stays : (kind : HttpKind) (bytes more : List ℕ) (head : Head) → HeadIs kind bytes head → IsKnown kind (bytes ++ more) head
head_stays kind bytes more head is =
    let on = front_on bytes more in
    let after = take (max_head - length bytes) more in
    elim is [
      | inl whole ↦
          let reads = reads_on kind (front bytes) whole.0 whole.1 after whole.2 in
          inr (inl (whole.0, whole.1 ++ after, subst (λ (l : List ℕ). Reads kind l whole.0 (whole.1 ++ after)) (sym on) reads, whole.3, whole.4))
      | inr other ↦
          elim other [
            | inl hopeless ↦
                let part = hopeless.1 in
                let still = subst (IsHopeless kind) (sym on) (hopeless_on kind (front bytes) after hopeless.0) in
                let bad = subst (λ (l : List ℕ). IsBadIn kind l part) (sym on) (bad_on kind (front bytes) after part hopeless.2) in
                inr (inr (inl (still, part, bad, hopeless.3)))
            | inr unfinished ↦ inl unfinished.2
          ]
    ]

pub known_on : (kind : HttpKind) (bytes more : List ℕ) (head : Head) → IsKnown kind bytes head → IsKnown kind (bytes ++ more) head
known_on kind bytes more head known = elim known [ inl nothing ↦ inl nothing | inr is ↦ head_stays kind bytes more head is ]

-- bytes that begin with a head of few enough fields are not hopeless
pub not_hopeless : (kind : HttpKind) (bytes : List ℕ) (parts : Parts) (rest : List ℕ) → IsHopeless kind bytes → Reads kind bytes parts rest
    → length parts.fields ≤ max_fields → ⊥
not_hopeless kind bytes parts rest hopeless reads few =
    let many : max_fields < length parts.fields = hopeless [] parts rest (subst (λ (l : List ℕ). Reads kind l parts rest) (sym (append-nil bytes)) reads) in
    omega arith

pub framed_alone : (kind : HttpKind) (bytes : List ℕ) (parts : Parts) (rest : List ℕ) (head : Head) → Reads kind (front bytes) parts rest
    → length parts.fields ≤ max_fields → HeadIs kind bytes head → head ≡ framed kind parts
framed_alone kind bytes parts rest head reads few is =
    elim is [
      | inl whole ↦ whole.4 ∙ ap (framed kind) (one_head kind (front bytes) whole.0 parts whole.1 rest whole.2 reads).0
      | inr other ↦
          elim other [
            | inl hopeless ↦ absurd (not_hopeless kind (front bytes) parts rest hopeless.0 reads few)
            | inr unfinished ↦ absurd (unfinished.0 parts rest reads)
          ]
    ]
