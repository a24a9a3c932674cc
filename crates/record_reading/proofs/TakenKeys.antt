-- The keys of a record, taken out of an object's members one after another.
use Rattle.std.proofs.Common.{◌≡◌, ℕ, zero, suc, ◌+◌, ◌<◌, Bool, true, false, not, ◌&&◌, cond, None, option_map, List, [], ◌∷◌, length, get_or, drop, BTreeMap, String, Global, string_bytes, string_cmp, nat_cmp, bytes_eq, refl, ap, ◌∙◌, subst, add-one}
use Rattle.std.proofs.Math.Seq.{drop-cons}
use Rattle.std.proofs.lemmas.Bool.{and_parts, not-true}
use Rattle.std.proofs.lemmas.Map.Text.{btree_map_updates_text}
use Rattle.std.specs.BTreeMap.{UpdatesBy, get_by_text}
use Rattle.std.specs.Cmp.Lexicographic.{slice_cmp}
use Rattle.std.specs.List.{list_all}
use Rattle.serde_json.specs.Data.{Data}
use Rattle.serde_json.specs.Find.{get, get_member}
use Rattle.serde_json.specs.View.{view, members_view}
use Rattle.serde_json.specs.declared.value.Value.{Value}
use Rattle.serde_json.proofs.Views.{view-lookup}
use Rattle.record_reading.specs.Internal.KeyReading.{HoldsForEach}
use Rattle.record_reading.specs.RecordTree.{keys, key_text}
use Rattle.record_reading.specs.declared.record_parts.Key.{Key}
use Rattle.record_reading.proofs.KeyTable.{each_and}

-- at the key, the members have the value of the tree
abbrev pub IsLeft : Data → BTreeMap (String Global) Value → Key → Type 0
IsLeft tree members key = option_map view (get_by_text members (key_text key)) ≡ get (key_text key) tree

abbrev Differs : Key → Key → Type 0
Differs key other = bytes_eq (key_text key) (key_text other) ≡ false

abbrev AllDiffer : List Key → Type 0
AllDiffer [] = Unit {0}
AllDiffer (key ∷ more) = HoldsForEach (Differs key) more × AllDiffer more

abbrev differs_from : Key → List Key → Bool
differs_from key ks = list_all (λ other. not (bytes_eq (key_text key) (key_text other))) ks

abbrev all_differ : List Key → Bool
all_differ [] = true
all_differ (key ∷ more) = differs_from key more && all_differ more

differ_tested : (key : Key) (ks : List Key) → differs_from key ks ≡ true → HoldsForEach (Differs key) ks
differ_tested key [] is = tt
differ_tested key (k ∷ ks) is =
    let parts = and_parts (not (bytes_eq (key_text key) (key_text k))) (differs_from key ks) is in
    (not-true (bytes_eq (key_text key) (key_text k)) parts.0, differ_tested key ks parts.1)

all_differ_tested : (ks : List Key) → all_differ ks ≡ true → AllDiffer ks
all_differ_tested [] is = tt
all_differ_tested (k ∷ ks) is =
    let parts = and_parts (differs_from k ks) (all_differ ks) is in
    (differ_tested k ks parts.0, all_differ_tested ks parts.1)

drop_differ : (ks : List Key) (i : ℕ) → AllDiffer ks → AllDiffer (drop i ks)
drop_differ ks zero differ = differ
drop_differ [] (suc i) differ = tt
drop_differ (k ∷ ks) (suc i) differ = drop_differ ks i differ.1

pub all_left : (tree : Data) (members : BTreeMap (String Global) Value) → ((key : List ℕ) → get_member key (members_view members.entries) ≡ get key tree) → (ks : List Key) → HoldsForEach (IsLeft tree members) ks
all_left tree members same [] = tt
all_left tree members same (k ∷ ks) = (view-lookup (key_text k) members.entries ∙ same (key_text k), all_left tree members same ks)

pub left_here : (tree : Data) (members : BTreeMap (String Global) Value) (i : ℕ) (d : Key) → i < length keys → HoldsForEach (IsLeft tree members) (drop i keys) → IsLeft tree members (get_or keys i d)
left_here tree members i d below left = (subst (HoldsForEach (IsLeft tree members)) (drop-cons keys i d below) left).0

-- after the value at a key is taken, the values at the later keys are still there
pub left_more : (tree : Data) (members rest : BTreeMap (String Global) Value) (i : ℕ) (d : Key) → i < length keys → UpdatesBy string_cmp (λ k. slice_cmp nat_cmp (key_text (get_or keys i d)) (string_bytes k)) members rest None
    → HoldsForEach (IsLeft tree members) (drop i keys) → HoldsForEach (IsLeft tree rest) (drop (i + 1) keys)
left_more tree members rest i d below taken left =
    let behind = subst (HoldsForEach (IsLeft tree members)) (drop-cons keys i d below) left in
    let differ = subst AllDiffer (drop-cons keys i d below) (drop_differ keys i (all_differ_tested keys refl)) in
    rw add-one (each_and (IsLeft tree members) (Differs (get_or keys i d)) (IsLeft tree rest) kept (drop (suc i) keys) behind.1 differ.0)
  where
    kept : (other : Key) → IsLeft tree members other → Differs (get_or keys i d) other → IsLeft tree rest other
    kept other was differs =
        ap (option_map view) (btree_map_updates_text (key_text (get_or keys i d)) members rest None taken (key_text other) ∙ ap (λ b. cond b None (get_by_text members (key_text other))) differs) ∙ was
