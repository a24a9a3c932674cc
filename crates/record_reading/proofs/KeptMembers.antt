-- The members of a record that are kept, one after another.
use Rattle.std.proofs.Common.{◌≡◌, ℕ, zero, suc, ◌<◌, Bool as Truths, true, false, Option, Some, None, List, ◌∷◌, refl, sym, ap, ◌∙◌, subst, arith, rules, inl, inr, unwrap_or, bytes_eq, true≢false}
use Rattle.std.proofs.lemmas.Slice.Eq.{bytes_eq-Decides}
use Rattle.std.specs.Prelude.{◌⊎◌, if◌then◌else◌, option_map}
use Rattle.json.specs.Token.{Token}
use Rattle.json.specs.Json as json
use Rattle.json.specs.Reads.{token_of}
use Rattle.json.specs.declared.token.Token.{Token as Read}
use Rattle.json.specs.declared.token.Token.TheVariants.{BeginObject, EndObject, BeginArray, EndArray, Key, String, Number, Bool, Null, Bad}
use Rattle.json.specs.Json.{parse_map, value}
use Rattle.json.proofs.Grammar.{value_is}
use Rattle.serde_json.specs.Data.{Data, null, boolean, number, string, array, Members, put}
use Rattle.serde_json.specs.Find.{get, get_member}
use Rattle.serde_json.specs.Read.{number_of, of_json, of_items, converted}
use Rattle.serde_json.specs.View.{view}
use Rattle.serde_json.specs.declared.value.Value.{Value, Bool as Truth, the_lemmas}
use Rattle.serde_json.proofs.Views.{get_member-put, get_member-put_other}
use Rattle.record_reading.specs.Internal.KeptTree.{is_kept, kept_at, kept_of, member_kept, AreKeptMembers}
use Rattle.record_reading.specs.RecordTree.{key_text}
use Rattle.record_reading.specs.declared.record_parts.Key.{Key as AnyKey}
use Rattle.record_reading.proofs.JsonTurns.{converted_some}

truth : view (Truth false) ≡ boolean false
truth = search (rules, the_lemmas)

pub one_kept : (k : List ℕ) (n : ℕ) (o : Option Value) (v : Value) (ms : Members) → 0 < n → v ≡ unwrap_or o (Truth false) → put k (view v) ms ≡ member_kept k n (option_map view o) ms
one_kept k zero o v ms above is = absurd (omega arith)
one_kept k (suc n) None v ms above is = ap (λ d. put k d ms) (ap view is ∙ truth)
one_kept k (suc n) (Some w) v ms above is = ap (λ x. put k (view x) ms) is

kept_or_truth : (k : List ℕ) (n : ℕ) (b : Truths) (d : Data) (ms : Members) → member_kept k (suc n) (if b then Some d else None) ms ≡ put k (if b then d else boolean false) ms
kept_or_truth k n true d ms = refl
kept_or_truth k n false d ms = refl

at_key : (q k : List ℕ) (d : Data) (ms : Members) → q ≡ k → get_member q (put k d ms) ≡ Some d
at_key q k d ms is = ap (λ t. get_member t (put k d ms)) is ∙ get_member-put k d ms

module _ (ms kept new : Members) (k : List ℕ) (d : Data) (were : AreKeptMembers ms kept) where
  put_kept : new ≡ put k (kept_at d) kept → AreKeptMembers (put k d ms) new
  put_kept is key = go (bytes_eq (key_text key) k) refl
    where
      go : (b : Truths) → bytes_eq (key_text key) k ≡ b → get_member (key_text key) new ≡ option_map kept_at (get_member (key_text key) (put k d ms))
      go true equal =
          let same = (bytes_eq-Decides (key_text key) k).0 equal in
          ap (get_member (key_text key)) is ∙ at_key (key_text key) k (kept_at d) kept same ∙ sym (ap (option_map kept_at) (at_key (key_text key) k d ms same))
      go false differ =
          let other : key_text key ≡ k → ⊥ = λ same. true≢false (sym ((bytes_eq-Decides (key_text key) k).1 same) ∙ differ) in
          ap (get_member (key_text key)) is ∙ get_member-put_other (key_text key) k (kept_at d) kept other ∙ were key ∙ sym (ap (option_map kept_at) (get_member-put_other (key_text key) k d ms other))

  pub members_kept : (lists : ℕ) (o : Option Data) → ((key : AnyKey) → key_text key ≡ k → lists ≡ 2) → (lists ≡ 2) ⊎ (lists ≡ 0) → o ≡ kept_of lists d → new ≡ member_kept k lists o kept → AreKeptMembers (put k d ms) new
  members_kept lists o known (inl two) is more key = put_kept (more ∙ ap (λ x. member_kept k lists x kept) is ∙ ap (λ n. member_kept k n (kept_of n d) kept) two ∙ kept_or_truth k 1 (is_kept 2 d) d kept) key
  members_kept lists o known (inr zero_lists) is more key =
      let other : key_text key ≡ k → ⊥ = λ same. let two = known key same in omega arith in
      ap (get_member (key_text key)) (more ∙ ap (λ n. member_kept k n o kept) zero_lists) ∙ were key ∙ sym (ap (option_map kept_at) (get_member-put_other (key_text key) k d ms other))

abbrev IsNoObject : json.Json → Type 0
IsNoObject json.null = Unit {0}
IsNoObject (json.boolean b) = Unit {0}
IsNoObject (json.number s) = Unit {0}
IsNoObject (json.string s) = Unit {0}
IsNoObject (json.array js) = Unit {0}
IsNoObject (json.object ms) = ⊥

no_member : (k : List ℕ) (j : json.Json) (d : Data) → IsNoObject j → of_json j ≡ Some d → get k d ≡ None
no_member k json.null d none is = let same : null ≡ d = cc in sym (ap (get k) same)
no_member k (json.boolean b) d none is = let same : boolean b ≡ d = cc in sym (ap (get k) same)
no_member k (json.number s) d none is = of_number (number_of s) is
  where
    of_number : (o : Option _) → option_map number o ≡ Some d → get k d ≡ None
    of_number None e = absurd cc
    of_number (Some x) e = let same : number x ≡ d = cc in sym (ap (get k) same)
no_member k (json.string s) d none is = let same : string s ≡ d = cc in sym (ap (get k) same)
no_member k (json.array js) d none is = of_list (of_items js) is
  where
    of_list : (o : Option _) → option_map array o ≡ Some d → get k d ≡ None
    of_list None e = absurd cc
    of_list (Some ds) e = let same : array ds ≡ d = cc in sym (ap (get k) same)
no_member k (json.object ms) d none is = absurd none

abbrev pick : json.Json × List Token → Option (json.Json × List Token) → json.Json × List Token
pick p None = p
pick p (Some q) = q

first_of : (p q : json.Json × List Token) → Some p ≡ Some q → p.0 ≡ q.0
first_of p q is = ap (λ x. x.0) (ap (pick p) is)

list_is_no_object : (o : Option (json.Items × List Token)) (j : json.Json) (r : List Token) → parse_map json.array o ≡ Some (j, r) → IsNoObject j
list_is_no_object None j r is = absurd cc
list_is_no_object (Some p) j r is = subst IsNoObject (first_of (json.array p.0, p.1) (j, r) is) tt

no_object : (depth : ℕ) (t : Token) (rest r : List Token) (j : json.Json) → (t ≡ Token.begin_object → ⊥) → value depth (t ∷ rest) ≡ Some (j, r) → IsNoObject j
no_object depth Token.begin_object rest r j other is = absurd (other refl)
no_object depth Token.end_object rest r j other is = let none = sym (value_is depth (Token.end_object ∷ rest)) ∙ is in absurd cc
no_object depth Token.begin_array rest r j other is = list_is_no_object _ j r (sym (value_is depth (Token.begin_array ∷ rest)) ∙ is)
no_object depth Token.end_array rest r j other is = let none = sym (value_is depth (Token.end_array ∷ rest)) ∙ is in absurd cc
no_object depth (Token.key s) rest r j other is = let none = sym (value_is depth (Token.key s ∷ rest)) ∙ is in absurd cc
no_object depth (Token.string s) rest r j other is = subst IsNoObject (first_of (json.string s, rest) (j, r) (sym (value_is depth (Token.string s ∷ rest)) ∙ is)) tt
no_object depth (Token.number s) rest r j other is = subst IsNoObject (first_of (json.number s, rest) (j, r) (sym (value_is depth (Token.number s ∷ rest)) ∙ is)) tt
no_object depth (Token.boolean b) rest r j other is = subst IsNoObject (first_of (json.boolean b, rest) (j, r) (sym (value_is depth (Token.boolean b ∷ rest)) ∙ is)) tt
no_object depth Token.null rest r j other is = subst IsNoObject (first_of (json.null, rest) (j, r) (sym (value_is depth (Token.null ∷ rest)) ∙ is)) tt
no_object depth Token.bad rest r j other is = let none = sym (value_is depth (Token.bad ∷ rest)) ∙ is in absurd cc

pub nothing_at : (depth : ℕ) (t : Token) (rest r : List Token) (d : Data) → (t ≡ Token.begin_object → ⊥) → converted of_json (value depth (t ∷ rest)) ≡ Some (d, r) → (k : List ℕ) → get k d ≡ None
nothing_at depth t rest r d other is k =
    let j = converted_some of_json (value depth (t ∷ rest)) d r is in
    no_member k j.0 d (no_object depth t rest r j.0 other j.1) j.2

pub other_token : (t : Read) → (t ≡ BeginObject → ⊥) → token_of t ≡ Token.begin_object → ⊥
other_token BeginObject other is = other refl
other_token EndObject other is = cc
other_token BeginArray other is = cc
other_token EndArray other is = cc
other_token (Key s) other is = cc
other_token (String s) other is = cc
other_token (Number s) other is = cc
other_token (Bool b) other is = cc
other_token Null other is = cc
other_token Bad other is = cc
