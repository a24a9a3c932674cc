-- The values that JSON data shows, and the data that values are written as.
use Rattle.std.proofs.Common.{◌≡◌, ℕ, zero, suc, ◌+◌, ◌<◌, ◌≤◌, Option, Some, None, List, [], ◌∷◌, ◌++◌, length, get_or, take, map, refl, sym, ap, ◌∙◌, subst, append_assoc, append-nil, arith}
use Rattle.std.specs.Borrow.{Bor}
use Rattle.std.specs.Prelude.{option_and_then, option_copied, All}
use Rattle.std.proofs.lemmas.List.{map-append, take_more, take_all, length-map}
use Rattle.serde_json.specs.Data.{unsigned, negative, float, Data, null, boolean, number, string, array, object, Items}
use Rattle.serde_json.specs.Find.{as_str, as_array}
use Rattle.serde_json.specs.View.{view, items_of, items_view}
use Rattle.serde_json.specs.declared.value.Value.{Value}
use Rattle.record_reading.specs.RecordTree.{as_whole, text_lists_tree, list_tree, texts_tree}
use Rattle.record_reading.specs.Internal.JsonValues.{data_in, data_of}
use Rattle.record_reading.specs.Internal.Shown.{AnyShape, Shows}

array_is : (d : Data) (ds : Items) → as_array d ≡ Some ds → d ≡ array ds
array_is null ds is = absurd cc
array_is (boolean b) ds is = absurd cc
array_is (number n) ds is = absurd cc
array_is (string s) ds is = absurd cc
array_is (array es) ds is = let same : es ≡ ds = cc in ap array same
array_is (object ms) ds is = absurd cc

pub found_array : (found : Option Data) (ds : Items) → Some ds ≡ option_and_then as_array found → found ≡ Some (array ds)
found_array None ds is = absurd cc
found_array (Some d) ds is = ap Some (array_is d ds (sym is))

items_same : (ds es : List Data) → items_of ds ≡ items_of es → ds ≡ es
items_same [] [] is = refl
items_same [] (e ∷ es) is = absurd cc
items_same (d ∷ ds) [] is = absurd cc
items_same (d ∷ ds) (e ∷ es) is =
    let head : d ≡ e = cc in
    let tail : items_of ds ≡ items_of es = cc in
    ap (λ x. x ∷ ds) head ∙ ap (λ xs. e ∷ xs) (items_same ds es tail)

list_tree_same : (ds es : List Data) → list_tree ds ≡ list_tree es → ds ≡ es
list_tree_same ds es is = let items : items_of ds ≡ items_of es = cc in items_same ds es items

map_injective : {A B : Type 0} (f : A → B) → ((x y : A) → f x ≡ f y → x ≡ y) → (xs ys : List A) → map f xs ≡ map f ys → xs ≡ ys
map_injective f one [] [] is = refl
map_injective f one [] (y ∷ ys) is = absurd cc
map_injective f one (x ∷ xs) [] is = absurd cc
map_injective f one (x ∷ xs) (y ∷ ys) is =
    let head : f x ≡ f y = cc in
    let tail : map f xs ≡ map f ys = cc in
    ap (λ z. z ∷ xs) (one x y head) ∙ ap (λ zs. y ∷ zs) (map_injective f one xs ys tail)

pub list_injective : {A : Type 0} (f : A → Data) → ((x y : A) → f x ≡ f y → x ≡ y) → (xs ys : List A) → list_tree (map f xs) ≡ list_tree (map f ys) → xs ≡ ys
list_injective f one xs ys is = map_injective f one xs ys (list_tree_same (map f xs) (map f ys) is)

pub string_injective : (s t : List ℕ) → string s ≡ string t → s ≡ t
string_injective s t is = cc

pub texts_injective : (xs ys : List (List ℕ)) → texts_tree xs ≡ texts_tree ys → xs ≡ ys
texts_injective = list_injective string string_injective

pub text_lists_injective : (xs ys : List (List (List ℕ))) → text_lists_tree xs ≡ text_lists_tree ys → xs ≡ ys
text_lists_injective = list_injective texts_tree texts_injective

pub members_shown : {A : Type 0} (written : A → Data) (found : Option Data) (vs : List Value) (xs : List A) → found ≡ Some (array (items_view vs)) → map view vs ≡ map written xs → found ≡ Some (list_tree (map written xs))
members_shown written found vs xs is same = is ∙ ap (λ ds. Some (list_tree ds)) same

none_at : {A : Type 0} (written : A → Data) (P : A → Type 0) (vs : List Value) (ys : List A) (i : ℕ) (v : Value) → i < length vs → v ≡ get_or vs i v → Shows written P (Some (view v)) None → map view vs ≡ map written ys → ((k : ℕ) (d : A) → k < length ys → P (get_or ys k d)) → ⊥
none_at written P [] ys i v within is none same all = absurd (omega arith)
none_at written P (x ∷ vs) [] i v within is none same all = absurd cc
none_at written P (x ∷ vs) (y ∷ ys) zero v within is none same all =
    let head : view x ≡ written y = cc in
    none y (ap Some (ap view is ∙ head)) (all 0 y (omega arith))
none_at written P (x ∷ vs) (y ∷ ys) (suc i) v within is none same all =
    let tail : map view vs ≡ map written ys = cc in
    none_at written P vs ys i v (omega arith) is none tail (λ k d below. all (suc k) d (omega arith))

-- if one member shows nothing, the list shows nothing
pub member_not_shown : {A : Type 0} (written : A → Data) (P : A → Type 0) (found : Option Data) (vs : List Value) (i : ℕ) (v : Value) → i < length vs → v ≡ get_or vs i v → found ≡ Some (array (items_view vs))
    → Shows written P (Some (view v)) None → (ys : List A) → found ≡ Some (list_tree (map written ys)) → All P ys → ⊥
member_not_shown written P found vs i v within at is none ys shown all =
    let trees : list_tree (map view vs) ≡ list_tree (map written ys) = cc in
    none_at written P vs ys i v within at none (list_tree_same (map view vs) (map written ys) trees) all

pub member_more : {A : Type 0} (written : A → Data) (vs : List Value) (i : ℕ) (v : Value) (xs zs : List A) (x : A) → i < length vs → v ≡ get_or vs i v → map view (take i vs) ≡ map written xs → Some (view v) ≡ Some (written x)
    → zs ≡ xs ++ x ∷ [] → map view (take (i + 1) vs) ≡ map written zs
member_more written vs i v xs zs x within at done shown pushed =
    let one : view v ≡ written x = cc in
    ap (map view) (take_more vs i v within ∙ ap (λ y. take i vs ++ y ∷ []) (sym at)) ∙ map-append view (take i vs) (v ∷ []) ∙ ap (λ ds. ds ++ view v ∷ []) done ∙ ap (λ d. map written xs ++ d ∷ []) one
    ∙ sym (ap (map written) pushed ∙ map-append written xs (x ∷ []))

pub members_all : {A : Type 0} (written : A → Data) (vs : List Value) (i : ℕ) (xs : List A) → length vs ≤ i → map view (take i vs) ≡ map written xs → map view vs ≡ map written xs
members_all written vs i xs past done = ap (map view) (sym (take_all i vs past)) ∙ done

pub none_behind : {A : Type 0} (written : A → Data) (done : List A) (d : Data) (more : List Data) (ys : List A) → map written done ++ d ∷ more ≡ map written ys → Shows written AnyShape (Some d) None → ⊥
none_behind written [] d more [] is none = absurd cc
none_behind written [] d more (y ∷ ys) is none =
    let head : d ≡ written y = cc in
    none y (ap Some head) tt
none_behind written (x ∷ done) d more [] is none = absurd cc
none_behind written (x ∷ done) d more (y ∷ ys) is none =
    let tail : map written done ++ d ∷ more ≡ map written ys = cc in
    none_behind written done d more ys tail none

-- if the next member shows a value, the shown list gains this value
pub next_shown : {A : Type 0} (written : A → Data) (done now : List A) (x : A) (d : Data) (more all : List Data) → now ≡ done ++ x ∷ [] → Some d ≡ Some (written x) → map written done ++ d ∷ more ≡ all → map written now ++ more ≡ all
next_shown written done now x d more all pushed shown was =
    let one : d ≡ written x = cc in
    ap (λ xs. map written xs ++ more) pushed ∙ ap (λ ds. ds ++ more) (map-append written done (x ∷ [])) ∙ append_assoc (map written done) (written x ∷ []) more ∙ ap (λ e. map written done ++ e ∷ more) (sym one) ∙ was

pub shown_members : {A : Type 0} (written : A → Data) (found : Option Data) (vs : List Value) (ys : List A) → found ≡ Some (array (items_view vs)) → found ≡ Some (list_tree (map written ys)) → map view vs ≡ map written ys
shown_members written found vs ys is shown =
    let trees : list_tree (map view vs) ≡ list_tree (map written ys) = cc in
    list_tree_same (map view vs) (map written ys) trees

-- no member is left
pub all_shown : {A : Type 0} (written : A → Data) (done : List A) (more : List Value) (all : List Data) → 0 ≡ length more → map written done ++ map view more ≡ all → all ≡ map written done
all_shown written done [] all none was = sym was ∙ append-nil (map written done)
all_shown written done (v ∷ more) all none was = absurd (omega arith)

-- lending a value that was taken out does not change its data
pub data_lent : (lent : Option (Bor Value)) (found : Option Value) → option_copied lent ≡ found → data_in lent ≡ data_of found
data_lent None found is = ap data_of is
data_lent (Some v) found is = ap data_of is

pub shown_lent : {A : Type 0} (written : A → Data) (P : A → Type 0) (lent : Option (Bor Value)) (found : Option Value) (read : Option A) → option_copied lent ≡ found → Shows written P (data_in lent) read → Shows written P (data_of found) read
shown_lent written P lent found read is shown = subst (λ d. Shows written P d read) (data_lent lent found is) shown

pub shown_length : {A : Type 0} (written : A → Data) (found : Option Data) (vs : List Value) (ys : List A) → found ≡ Some (array (items_view vs)) → found ≡ Some (list_tree (map written ys)) → length vs ≡ length ys
shown_length written found vs ys is shown =
    let trees : list_tree (map view vs) ≡ list_tree (map written ys) = cc in
    sym (length-map vs view) ∙ ap length (list_tree_same (map view vs) (map written ys) trees) ∙ length-map ys written

-- if the data is that of a value without the shape, no value of the shape is shown
pub other_shape : {A : Type 0} (written : A → Data) → ((x y : A) → written x ≡ written y → x ≡ y) → (P : A → Type 0) (found : Option Data) (x : A) → found ≡ Some (written x) → ¬ P x → (y : A) → found ≡ Some (written y) → P y → ⊥
other_shape {A} written one P found x is not y shown shaped =
    let same : written y ≡ written x = cc in
    not (subst P (one y x same) shaped)
