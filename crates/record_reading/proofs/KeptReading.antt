-- A value that is read and kept, by its first token, and lists that gain an item.
use Rattle.std.proofs.Common.{◌≡◌, ℕ, zero, suc, ◌-◌, ◌<◌, Bool, true, false, ◌&&◌, Option, Some, None, List, [], ◌∷◌, ◌++◌, length, nat_lt, refl, sym, ap, ◌∙◌, arith, inl, inr, Result, lt-ltb}
use Rattle.std.specs.Prelude.{IfErr, IsErrAnd, if◌then◌else◌, option_map}
use Rattle.std.specs.Bool.{then_some}
use Rattle.std.proofs.lemmas.Result.{err_from_is_err_and}
use Rattle.json.specs.Token.{Token}
use Rattle.json.specs.Json.{parse_map, items, members, value}
use Rattle.json.proofs.Grammar.{value_is, value-begin_array, value-begin_object}
use Rattle.serde_json.specs.Data.{Num, Data, null, boolean, number, string, array, object, Items, no_items, item, Members, no_members}
use Rattle.serde_json.specs.Read.{number_of, of_json, of_items, of_members, converted}
use Rattle.serde_json.specs.View.{view, items_of}
use Rattle.serde_json.specs.declared.value.Value.{Value}
use Rattle.record_reading.proofs.JsonTurns.{converted-array, converted-object}
use Rattle.record_reading.specs.Internal.KeptTree.{are_kept, is_kept, kept_of, kept_list, with_one, IsRefused}
use Rattle.record_reading.specs.declared.verify_fault.VerifyFault.{VerifyFault}

pub refused : {T A : Type 0} {fault : VerifyFault} (r : Result T VerifyFault) (read : Option A) → IsErrAnd r (λ f. f ≡ fault) → IsRefused read fault → IfErr r (IsRefused read)
refused {fault = fault} r read is why = let same = err_from_is_err_and r is in rw (same.1, same.2) why

pub refused_as : {A B : Type 0} {fault : VerifyFault} (read : Option A) (all : Option B) → (read ≡ None → all ≡ None) → IsRefused read fault → IsRefused all fault
refused_as read all so (inl memory) = inl memory
refused_as read all so (inr (is, none)) = inr (is, so none)

pub string_read : (depth : ℕ) (s : List ℕ) (rest : List Token) → converted of_json (value depth (Token.string s ∷ rest)) ≡ Some (string s, rest)
string_read depth s rest = ap (converted of_json) (value_is depth (Token.string s ∷ rest))

pub boolean_read : (depth : ℕ) (b : Bool) (rest : List Token) → converted of_json (value depth (Token.boolean b ∷ rest)) ≡ Some (boolean b, rest)
boolean_read depth b rest = ap (converted of_json) (value_is depth (Token.boolean b ∷ rest))

pub null_read : (depth : ℕ) (rest : List Token) → converted of_json (value depth (Token.null ∷ rest)) ≡ Some (null, rest)
null_read depth rest = ap (converted of_json) (value_is depth (Token.null ∷ rest))

pub number_read : (depth : ℕ) (s : List ℕ) (x : Num) (rest : List Token) → number_of s ≡ Some x → converted of_json (value depth (Token.number s ∷ rest)) ≡ Some (number x, rest)
number_read depth s x rest is = ap (converted of_json) (value_is depth (Token.number s ∷ rest)) ∙ rw is

pub number_refused : (depth : ℕ) (s : List ℕ) (rest : List Token) → number_of s ≡ None → converted of_json (value depth (Token.number s ∷ rest)) ≡ None
number_refused depth s rest is = ap (converted of_json) (value_is depth (Token.number s ∷ rest)) ∙ rw is

module _ (depth : ℕ) (rest : List Token) (above : 0 < depth) where
  pub array_read : (ds : Items) (r : List Token) → converted of_items (items (value (depth - 1)) (length rest) rest) ≡ Some (ds, r) → converted of_json (value depth (Token.begin_array ∷ rest)) ≡ Some (array ds, r)
  array_read ds r is = ap (converted of_json) (value-begin_array depth rest above) ∙ converted-array (items (value (depth - 1)) (length rest) rest) ∙ ap (parse_map array) is

  pub array_refused : converted of_items (items (value (depth - 1)) (length rest) rest) ≡ None → converted of_json (value depth (Token.begin_array ∷ rest)) ≡ None
  array_refused is = ap (converted of_json) (value-begin_array depth rest above) ∙ converted-array (items (value (depth - 1)) (length rest) rest) ∙ ap (parse_map array) is

  pub object_read : (ms : Members) (r : List Token) → converted (λ js. of_members js no_members) (members (value (depth - 1)) (length rest) rest) ≡ Some (ms, r) → converted of_json (value depth (Token.begin_object ∷ rest)) ≡ Some (object ms, r)
  object_read ms r is = ap (converted of_json) (value-begin_object depth rest above) ∙ converted-object (members (value (depth - 1)) (length rest) rest) ∙ ap (parse_map object) is

  pub object_refused : converted (λ js. of_members js no_members) (members (value (depth - 1)) (length rest) rest) ≡ None → converted of_json (value depth (Token.begin_object ∷ rest)) ≡ None
  object_refused is = ap (converted of_json) (value-begin_object depth rest above) ∙ converted-object (members (value (depth - 1)) (length rest) rest) ∙ ap (parse_map object) is

pub array_too_deep : (depth : ℕ) (rest : List Token) → depth ≡ 0 → converted of_json (value depth (Token.begin_array ∷ rest)) ≡ None
unfolding value
array_too_deep depth rest none = ap (λ k. converted of_json (value k (Token.begin_array ∷ rest))) none

pub object_too_deep : (depth : ℕ) (rest : List Token) → depth ≡ 0 → converted of_json (value depth (Token.begin_object ∷ rest)) ≡ None
unfolding value
object_too_deep depth rest none = ap (λ k. converted of_json (value k (Token.begin_object ∷ rest))) none

pub kept_string : (n : ℕ) (s : List ℕ) → kept_of n (string s) ≡ Some (string s)
kept_string zero s = refl
kept_string (suc n) s = refl

pub kept_boolean : (n : ℕ) (b : Bool) → None ≡ kept_of n (boolean b)
kept_boolean zero b = refl
kept_boolean (suc n) b = refl

pub kept_object : (n : ℕ) (ms : Members) → None ≡ kept_of n (object ms)
kept_object zero ms = refl
kept_object (suc n) ms = refl

some_lists : (n : ℕ) → nat_lt 0 (suc n) ≡ true
some_lists n = lt-ltb 0 (suc n) (omega arith)

pub some_if : {A B : Type 0} (b : Bool) (x : A) (y : B) (f : A → B) → f x ≡ y → option_map f (then_some b x) ≡ (if b then Some y else None)
some_if true x y f is = ap Some is
some_if false x y f is = refl

pub kept_number : (n : ℕ) (v : Value) (x : Num) (o : Option Value) → view v ≡ number x → o ≡ then_some (nat_lt 0 n) v → option_map view o ≡ kept_of n (number x)
kept_number zero v x o seen is = ap (option_map view) is ∙ some_if false v (number x) view seen
kept_number (suc n) v x o seen is = ap (option_map view) (is ∙ ap (λ b. then_some b v) (some_lists n)) ∙ some_if true v (number x) view seen

pub kept_null : (n : ℕ) (v : Value) (o : Option Value) → view v ≡ null → o ≡ then_some (nat_lt 0 n) v → option_map view o ≡ kept_of n null
kept_null zero v o seen is = ap (option_map view) is ∙ some_if false v null view seen
kept_null (suc n) v o seen is = ap (option_map view) (is ∙ ap (λ b. then_some b v) (some_lists n)) ∙ some_if true v null view seen

pub kept_array : (n : ℕ) (ds es : List Data) → Some es ≡ kept_list n ds → Some (array (items_of es)) ≡ kept_of n (array (items_of ds))
kept_array zero ds es is = absurd cc
kept_array (suc n) ds es is = go (are_kept (is_kept n) (items_of ds)) is
  where
    go : (b : Bool) → Some es ≡ (if b then Some ds else None) → Some (array (items_of es)) ≡ (if b then Some (array (items_of ds)) else None)
    go true same = let equal : es ≡ ds = cc in ap (λ xs. Some (array (items_of xs))) equal
    go false same = absurd cc

pub array_not_kept : (n : ℕ) (ds : List Data) → None ≡ kept_list n ds → None ≡ kept_of n (array (items_of ds))
array_not_kept zero ds is = refl
array_not_kept (suc n) ds is = go (are_kept (is_kept n) (items_of ds)) is
  where
    go : (b : Bool) → None ≡ (if b then Some ds else None) → None ≡ (if b then Some (array (items_of ds)) else None)
    go true same = absurd cc
    go false same = refl

abbrev pub before : List Data → Items → Items
before [] rest = rest
before (d ∷ ds) rest = item d (before ds rest)

pub nothing_before : (r : Option (Items × List Token)) → r ≡ parse_map (before []) r
nothing_before None = refl
nothing_before (Some p) = refl

pub before_none : (ds : List Data) → before ds no_items ≡ items_of ds
before_none [] = refl
before_none (d ∷ ds) = ap (item d) (before_none ds)

before_more : (ds : List Data) (d : Data) (rest : Items) → before ds (item d rest) ≡ before (ds ++ d ∷ []) rest
before_more [] d rest = refl
before_more (e ∷ ds) d rest = ap (item e) (before_more ds d rest)

pub one_more : (ds : List Data) (d : Data) (r : Option (Items × List Token)) → parse_map (before ds) (parse_map (item d) r) ≡ parse_map (before (ds ++ d ∷ [])) r
one_more ds d None = refl
one_more ds d (Some p) = ap (λ is. Some (is, p.1)) (before_more ds d p.0)

pub none_kept : (n : ℕ) → (if nat_lt 0 n then Some [] else None) ≡ kept_list n []
none_kept zero = refl
none_kept (suc n) = ap (λ b. if b then Some [] else None) (some_lists n)

and_true : (b : Bool) → b && true ≡ b
and_true true = refl
and_true false = refl

and_later : (a b c : Bool) → a && (b && c) ≡ (a && b) && c
and_later true b c = refl
and_later false b c = refl

more_kept : (is : Data → Bool) (ds : List Data) (d : Data) → are_kept is (items_of (ds ++ d ∷ [])) ≡ are_kept is (items_of ds) && is d
more_kept is [] d = and_true (is d)
more_kept is (e ∷ ds) d = ap (λ b. is e && b) (more_kept is ds d) ∙ and_later (is e) (are_kept is (items_of ds)) (is d)

both_kept : (a b : Bool) (ds : List Data) (d : Data) → with_one (if a then Some ds else None) (if b then Some d else None) ≡ (if a && b then Some (ds ++ d ∷ []) else None)
both_kept true true ds d = refl
both_kept true false ds d = refl
both_kept false b ds d = refl

pub with_one_kept : (n : ℕ) (ds : List Data) (d : Data) (below : ℕ) → below ≡ n - 1 → with_one (kept_list n ds) (kept_of below d) ≡ kept_list n (ds ++ d ∷ [])
with_one_kept zero ds d below is = refl
with_one_kept (suc n) ds d below is =
    let same : below ≡ n = omega arith in
    ap (λ k. with_one (kept_list (suc n) ds) (kept_of k d)) same ∙ both_kept (are_kept (is_kept n) (items_of ds)) (is_kept n d) ds d
    ∙ ap (λ b. if b then Some (ds ++ d ∷ []) else None) (sym (more_kept (is_kept n) ds d))
