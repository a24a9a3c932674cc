use Rattle.std.proofs.Common.{◌≡◌, ◌-◌, ◌<◌, [], ◌∷◌, ◌++◌, length, map, Some, None, refl, sym, ap, ap₂, ◌∙◌, arith, rules, inr}
use Rattle.json.specs.Json.{parse_map, after_end_array, read_key, items, value}
use Rattle.json.specs.Reads.{token_of}
use Rattle.json.proofs.Grammar.{value_is, read_key-shorter}
use Rattle.serde_json.specs.Data.{null, boolean, number, string, array, object, put, no_members}
use Rattle.serde_json.specs.Read.{of_json, of_items, converted}
use Rattle.serde_json.specs.View.{view, number_view, items_of}
use Rattle.serde_json.specs.declared.value.Value.{String, Number, Null, the_lemmas}
use Rattle.serde_json.proofs.Views.{view-Array}
use Rattle.record_reading.proofs.JsonTurns.{item_read, item_refused, items_over, member_read, member_refused, key_refused, members_over}
use Rattle.std.specs.Prelude.{nat_lt, option_map}
use Rattle.record_reading.specs.Internal.KeptTree.{with_one}
use Rattle.record_reading.specs.declared.verify_fault.VerifyFault.TheVariants.{NotJson}
use Rattle.record_reading.proofs.KeptReading as lemma
use Rattle.record_reading.proofs.KeptReading.{before, refused, refused_as}
use Rattle.record_reading.proofs.kept_tree.+kept.Goals as goal

-- ---- One value

pub value_of-returns-in_ok-from_str-in-String-clause-ok : goal.value_of-returns-in_ok-from_str-in-String-clause-ok
value_of-returns-in_ok-from_str-in-String-clause-ok t c =
    let s = c.in-String.text.now in
    let seen : view (String c.in_ok-from_str-in-String.field-0) ≡ string s = search (rules, the_lemmas) in (
      string s,
      ap (λ k. converted of_json (value c.args.depth (token_of k ∷ c.args.reader.now))) c.in-String.is ∙ lemma.string_read c.args.depth s c.args.reader.now,
      ap Some seen ∙ sym (lemma.kept_string c.args.lists s),
    )

pub value_of-returns-in-Some-clause-ok : goal.value_of-returns-in-Some-clause-ok
value_of-returns-in-Some-clause-ok t c =
    let s = c.in-Number.text.now in
    let x = number_view c.in-Some.number in
    let seen : view (Number c.in-Some.number) ≡ number x = search (rules, the_lemmas) in (
      number x,
      ap (λ k. converted of_json (value c.args.depth (token_of k ∷ c.args.reader.now))) c.in-Number.is ∙ lemma.number_read c.args.depth s x c.args.reader.now (sym c.in-Some.ensures),
      lemma.kept_number c.args.lists (Number c.in-Some.number) x c.then_some.result seen c.then_some.ensures,
    )

pub value_of-returns-in-None-clause-err : goal.value_of-returns-in-None-clause-err
value_of-returns-in-None-clause-err t c =
    let s = c.in-Number.text.now in
    inr (refl, ap (λ k. converted of_json (value c.args.depth (token_of k ∷ c.args.reader.now))) c.in-Number.is ∙ lemma.number_refused c.args.depth s c.args.reader.now (sym c.in-None.ensures))

pub value_of-returns-in-Null-clause-ok : goal.value_of-returns-in-Null-clause-ok
value_of-returns-in-Null-clause-ok t c =
    let seen : view Null ≡ null = search (rules, the_lemmas) in (
      null,
      ap (λ k. converted of_json (value c.args.depth (token_of k ∷ c.args.reader.now))) c.in-Null.is ∙ lemma.null_read c.args.depth c.args.reader.now,
      lemma.kept_null c.args.lists Null c.then_some-in-Null.result seen c.then_some-in-Null.ensures,
    )

pub value_of-returns-in-Bool-clause-ok : goal.value_of-returns-in-Bool-clause-ok
value_of-returns-in-Bool-clause-ok t c =
    let b = c.in-Bool.field-0 in (
      boolean b,
      ap (λ k. converted of_json (value c.args.depth (token_of k ∷ c.args.reader.now))) c.in-Bool.is ∙ lemma.boolean_read c.args.depth b c.args.reader.now,
      lemma.kept_boolean c.args.lists b,
    )

pub value_of-returns-in-EndObject-clause-err : goal.value_of-returns-in-EndObject-clause-err
value_of-returns-in-EndObject-clause-err t c =
    let none : value c.args.depth (token_of c.args.token ∷ c.args.reader.now) ≡ None = rw (value_is c.args.depth (token_of c.args.token ∷ c.args.reader.now)) (grind arith) in
    inr (refl, ap (converted of_json) none)

pub value_of-returns-then-depth-eq0-clause-err : goal.value_of-returns-then-depth-eq0-clause-err
value_of-returns-then-depth-eq0-clause-err t c =
    inr (refl, ap (λ k. converted of_json (value c.args.depth (token_of k ∷ c.args.reader.now))) c.in-BeginArray.is ∙ lemma.array_too_deep c.args.depth c.args.reader.now (omega arith))

pub value_of-returns-then-depth-eq0-2-clause-err : goal.value_of-returns-then-depth-eq0-2-clause-err
value_of-returns-then-depth-eq0-2-clause-err t c =
    inr (refl, ap (λ k. converted of_json (value c.args.depth (token_of k ∷ c.args.reader.now))) c.in-BeginObject.is ∙ lemma.object_too_deep c.args.depth c.args.reader.now (omega arith))

pub value_of-returns-in_err-items-in-BeginArray-clause-err : goal.value_of-returns-in_err-items-in-BeginArray-clause-err
value_of-returns-in_err-items-in-BeginArray-clause-err t c =
    let first = ap (λ k. converted of_json (value c.args.depth (token_of k ∷ c.args.reader.now))) c.in-BeginArray.is in
    refused c.from_residual-in_err-items-in-BeginArray.result _ c.from_residual-in_err-items-in-BeginArray.ensures.1
    (refused_as _ _ (λ none. first ∙ lemma.array_refused c.args.depth c.args.reader.now (omega arith) none) c.in_err-items-in-BeginArray.ensures.err)

pub value_of-returns-in_err-pass_members-in-BeginObject-clause-err : goal.value_of-returns-in_err-pass_members-in-BeginObject-clause-err
value_of-returns-in_err-pass_members-in-BeginObject-clause-err t c =
    let first = ap (λ k. converted of_json (value c.args.depth (token_of k ∷ c.args.reader.now))) c.in-BeginObject.is in
    refused c.from_residual-in_err-pass_members-in-BeginObject.result _ c.from_residual-in_err-pass_members-in-BeginObject.ensures.1
    (refused_as _ _ (λ none. first ∙ lemma.object_refused c.args.depth c.args.reader.now (omega arith) none) c.in_err-pass_members-in-BeginObject.ensures.err)

pub value_of-returns-in-Some-2-clause-ok : goal.value_of-returns-in-Some-2-clause-ok
value_of-returns-in-Some-2-clause-ok t c =
    let first = ap (λ k. converted of_json (value c.args.depth (token_of k ∷ c.args.reader.now))) c.in-BeginArray.is in
    let found = c.in_ok-items-in-BeginArray.ensures.ok in
    let kept : Some (map view c.in-Some-2.items.items) ≡ _ = sym (ap (λ o. option_map (λ v. map view v.items) o) c.in-Some-2.is) ∙ found.2 in (
      array (items_of found.0),
      first ∙ lemma.array_read c.args.depth c.args.reader.now (omega arith) (items_of found.0) c.items_of.new.reader found.1,
      ap Some (view-Array c.shrink_to_fit.new.self ∙ ap (λ vs. array (items_of (map view vs))) c.shrink_to_fit.ensures.items) ∙ lemma.kept_array c.args.lists found.0 (map view c.in-Some-2.items.items) kept,
    )

pub value_of-returns-in-None-2-clause-ok : goal.value_of-returns-in-None-2-clause-ok
value_of-returns-in-None-2-clause-ok t c =
    let first = ap (λ k. converted of_json (value c.args.depth (token_of k ∷ c.args.reader.now))) c.in-BeginArray.is in
    let found = c.in_ok-items-in-BeginArray.ensures.ok in (
      array (items_of found.0),
      first ∙ lemma.array_read c.args.depth c.args.reader.now (omega arith) (items_of found.0) c.items_of.new.reader found.1,
      lemma.array_not_kept c.args.lists found.0 (sym (ap (λ o. option_map (λ v. map view v.items) o) c.in-None-2.is) ∙ found.2),
    )

pub value_of-returns-in_ok-pass_members-in-BeginObject-clause-ok : goal.value_of-returns-in_ok-pass_members-in-BeginObject-clause-ok
value_of-returns-in_ok-pass_members-in-BeginObject-clause-ok t c =
    let first = ap (λ k. converted of_json (value c.args.depth (token_of k ∷ c.args.reader.now))) c.in-BeginObject.is in
    let found = c.in_ok-pass_members-in-BeginObject.ensures.ok in (
      object found.0,
      first ∙ lemma.object_read c.args.depth c.args.reader.now (omega arith) found.0 c.pass_members.new.reader found.1,
      lemma.kept_object c.args.lists found.0,
    )

-- ---- Lists

pub items_of-items-init : goal.items_of-items-init
items_of-items-init t c =
    let all = converted of_items (items (value c.args.depth) (length c.args.reader.now) c.args.reader.now) in
    (length c.args.reader.now, [], omega arith, lemma.nothing_before all, omega arith, ap (option_map (λ v. map view v.items)) c.then_some-kept.ensures ∙ lemma.some_if (nat_lt 0 c.args.lists) c.new.result [] (λ v. map view v.items) (ap (map view) c.new.ensures.items) ∙ lemma.none_kept c.args.lists)

pub items_of-returns-in_err-token-clause-err : goal.items_of-returns-in_err-token-clause-err
items_of-returns-in_err-token-clause-err t c =
    let p = value c.args.depth in
    let l = c.items in
    let going : (after_end_array l.reader ≡ None) × (c.take_end_array.new.self ≡ l.reader) = grind arith in
    let empty : c.take_end_array.new.self ≡ [] = grind arith in
    let none : converted of_json (p l.reader) ≡ None = ap (λ ts. converted of_json (p ts)) (sym going.1 ∙ empty) ∙ ap (converted of_json) (value_is c.args.depth []) in
    let is : c.in_err-token.field-0.0 ≡ NotJson = grind arith in
    refused c.from_residual.result _ c.from_residual.ensures.1
    (inr (is, l.invariant.3 ∙ ap (parse_map (before l.invariant.1)) (item_refused p l.invariant.0 l.reader going.0 none)))

pub items_of-returns-in_err-item-clause-err : goal.items_of-returns-in_err-item-clause-err
items_of-returns-in_err-item-clause-err t c =
    let p = value c.args.depth in
    let l = c.items in
    let going : (after_end_array l.reader ≡ None) × (c.take_end_array.new.self ≡ l.reader) = grind arith in
    let first : c.take_end_array.new.self ≡ token_of c.in_ok-token.token ∷ c.next.new.self = grind arith in
    refused c.from_residual-in_err-item.result _ c.from_residual-in_err-item.ensures.1
    (refused_as _ _ (λ none. l.invariant.3 ∙ ap (parse_map (before l.invariant.1)) (item_refused p l.invariant.0 l.reader going.0 (ap (λ ts. converted of_json (p ts)) (sym going.1 ∙ first) ∙ none))) c.in_err-item.ensures.err)

pub items_of-items-preserved : goal.items_of-items-preserved
items_of-items-preserved t c =
    let p = value c.args.depth in
    let l = c.items in
    let n = l.invariant.0 in
    let ds = l.invariant.1 in
    let going : (after_end_array l.reader ≡ None) × (c.take_end_array.new.self ≡ l.reader) = grind arith in
    let first : c.take_end_array.new.self ≡ token_of c.in_ok-token.token ∷ c.next.new.self = grind arith in
    let there = sym going.1 ∙ first in
    let done = c.in_ok-item.ensures.ok in
    let d = done.0 in
    let r = c.value_of.new.reader in
    let less : length r < length l.reader = omega (arith, ap length there, c.in_ok-item.ensures.no_longer) in
    let turn = item_read p n l.reader r d (omega (arith, l.invariant.2)) going.0 (ap (λ ts. converted of_json (p ts)) there ∙ done.1) in (
      n - 1,
      ds ++ d ∷ [],
      omega (arith, l.invariant.2),
      l.invariant.3 ∙ ap (parse_map (before ds)) turn ∙ lemma.one_more ds d _,
      omega (arith, l.invariant.4),
      c.in_ok-kept.ensures ∙ ap₂ with_one l.invariant.5 done.2 ∙ lemma.with_one_kept c.args.lists ds d c.saturating_sub-below.result c.saturating_sub-below.ensures,
    )

pub items_of-returns-clause-ok : goal.items_of-returns-clause-ok
items_of-returns-clause-ok t c =
    let p = value c.args.depth in
    let l = c.items in
    let ds = l.invariant.1 in
    let r = c.take_end_array.new.self in (
      ds,
      l.invariant.3 ∙ ap (parse_map (before ds)) (items_over p l.invariant.0 l.reader r l.invariant.2 (grind arith)) ∙ ap (λ is. Some (is, r)) (lemma.before_none ds),
      l.invariant.5,
    )

-- ---- Objects

pub pass_members-members-init : goal.pass_members-members-init
pass_members-members-init t c = (length c.args.reader.now, no_members, omega arith, refl, omega arith)

pub pass_members-returns-in_err-next_key-clause-err : goal.pass_members-returns-in_err-next_key-clause-err
pass_members-returns-in_err-next_key-clause-err t c =
    let p = value c.args.depth in
    let l = c.members in
    let none = c.in_err-next_key.ensures.err in
    refused c.from_residual.result _ c.from_residual.ensures.1 (inr (none.0, l.invariant.3 ∙ key_refused p l.invariant.1 l.invariant.0 l.reader none.1))

pub pass_members-returns-in_err-token-clause-err : goal.pass_members-returns-in_err-token-clause-err
pass_members-returns-in_err-token-clause-err t c =
    let p = value c.args.depth in
    let l = c.members in
    let k = c.in-Some.field-0.now in
    let s = c.next_key.new.reader in
    let named : read_key l.reader ≡ Some (Some k, s) = grind arith in
    let empty : s ≡ [] = grind arith in
    let none : converted of_json (p s) ≡ None = ap (λ ts. converted of_json (p ts)) empty ∙ ap (converted of_json) (value_is c.args.depth []) in
    let is : c.in_err-token.field-0.0 ≡ NotJson = grind arith in
    refused c.from_residual-in_err-token.result _ c.from_residual-in_err-token.ensures.1 (inr (is, l.invariant.3 ∙ member_refused p l.invariant.1 l.invariant.0 k l.reader s named none))

pub pass_members-returns-in_err-value_of-clause-err : goal.pass_members-returns-in_err-value_of-clause-err
pass_members-returns-in_err-value_of-clause-err t c =
    let p = value c.args.depth in
    let l = c.members in
    let k = c.in-Some.field-0.now in
    let s = c.next_key.new.reader in
    let named : read_key l.reader ≡ Some (Some k, s) = grind arith in
    let first : s ≡ token_of c.in_ok-token.token ∷ c.next.new.self = grind arith in
    refused c.from_residual-in_err-value_of.result _ c.from_residual-in_err-value_of.ensures.1
    (refused_as _ _ (λ none. l.invariant.3 ∙ member_refused p l.invariant.1 l.invariant.0 k l.reader s named (ap (λ ts. converted of_json (p ts)) first ∙ none)) c.in_err-value_of.ensures.err)

pub pass_members-members-preserved : goal.pass_members-members-preserved
pass_members-members-preserved t c =
    let p = value c.args.depth in
    let l = c.members in
    let n = l.invariant.0 in
    let k = c.in-Some.field-0.now in
    let s = c.next_key.new.reader in
    let named : read_key l.reader ≡ Some (Some k, s) = grind arith in
    let first : s ≡ token_of c.in_ok-token.token ∷ c.next.new.self = grind arith in
    let done = c.in_ok-value_of.ensures.ok in
    let r = c.value_of.new.reader in
    let less = read_key-shorter l.reader (Some k) s named in
    let lesser : length r < length s = omega (arith, ap length first, c.in_ok-value_of.ensures.no_longer) in (
      n - 1,
      put k done.0 l.invariant.1,
      omega (arith, l.invariant.2),
      l.invariant.3 ∙ member_read p l.invariant.1 n k l.reader s r done.0 (omega (arith, l.invariant.2)) named (ap (λ ts. converted of_json (p ts)) first ∙ done.1),
      omega (arith, l.invariant.4),
    )

pub pass_members-returns-clause-ok : goal.pass_members-returns-clause-ok
pass_members-returns-clause-ok t c =
    let p = value c.args.depth in
    let l = c.members in
    (l.invariant.1, l.invariant.3 ∙ members_over p l.invariant.1 l.invariant.0 l.reader c.next_key.new.reader l.invariant.2 (grind arith))
