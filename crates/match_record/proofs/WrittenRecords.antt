-- Writing a record member by member, and reading it back.
use Rattle.std.proofs.Common.{◌≡◌, ℕ, zero, suc, ◌+◌, ◌<◌, ◌≤◌, ◌^◌, true, Option, Some, None, Ok, List, [], ◌∷◌, ◌++◌, length, map, take, get_or, refl, sym, ap, ◌∙◌, subst, append_assoc, append-nil, arith, inl, inr}
use Rattle.std.specs.Prelude.{option_map, option_and_then, slice_get, All, IfSome}
use Rattle.std.specs.Str.{IsUtf8}
use Rattle.std.proofs.lemmas.Bool.Decides.{nat_tests}
use Rattle.std.proofs.lemmas.List.{take_all, take_more, map-append}
use Rattle.json.specs.Token.{Token, begin_array, end_array, end_object, begin_object}
use Rattle.json.specs.Lex.{tokens}
use Rattle.json.specs.Json as json
use Rattle.json.specs.Print.{print}
use Rattle.json.specs.Tree as tree
use Rattle.json.specs.Tree.{items_tokens, members_tokens}
use Rattle.json.specs.Written.{Written, Writes}
use Rattle.json.proofs.Printed.Trees.{value-json_tokens}
use Rattle.serde_json.specs.Data.{Data, Items, Members, null, boolean, number, string, array, object, item, no_items, member, no_members, depth, items_depth, members_depth, put}
use Rattle.serde_json.specs.Read.{read, of_json, of_items, of_members, max_depth}
use Rattle.serde_json.specs.View.{items_of}
use Rattle.serde_json.specs.Written.{outline, items_outline, members_outline}
use Rattle.serde_json.proofs.Texts.{print-outline}
use Rattle.serde_json.proofs.Numbers.{number_of-decimal}
use Rattle.game_core.specs.Play.{Rules, max_goal}
use Rattle.match_book.specs.Lawful.{IsLawfulMatch}
use Rattle.match_book.specs.MatchValue.{MatchValue}
use Rattle.match_book.specs.Marks.{mark_text}
use Rattle.desk_calls.specs.Names.{is_clock, is_strikes, max_clock, max_strikes, IsLawfulSetup}
use Rattle.match_book.specs.declared.answer.Mark.{Mark}
use Rattle.match_record.specs.Internal.Written.{HasAdded, IsWritten, HasBegun, HasMembers, tokens_of, each_tokens, member_tokens}
use Rattle.record_reading.specs.LawfulRecord.{IsJson, LawfulPartsHaveShape}
use Rattle.record_reading.specs.RecordParts.{parts_of, AreGoals}
use Rattle.record_reading.specs.RecordTree.{list_tree, texts_tree, text_or_null, cause_text, mark_tree, whole_tree, key_text, key_tree, keys, members_at, version_tree, record_tree, record_text, HasShape}
use Rattle.record_reading.specs.declared.record_parts.Key.{Key}
use Rattle.record_reading.specs.declared.record_parts.Key.TheVariants.{Cause as AtCause, EndMarks, Errors, GoalValues, MatchId, Moves, Phase as AtPhase, PlayClock, Players, Roles, StartClock, StartMarks, States, Strikes, Version as AtVersion}
use Rattle.record_reading.specs.declared.record_parts.RecordParts.{RecordParts}
use Rattle.record_reading.specs.declared.record_parts.Version.{Version}
use Rattle.record_reading.specs.declared.record_parts.Version.TheVariants.{First, Second}
use Rattle.match_record.proofs.RecordLists.{part_of, take-next, map_twice, record_is_shallow}

-- ---- Tokens

pub one_added : {E : Type 0} {x : Unit {0}} {a b : Written} {t : Token} → Writes {E = E} (Ok x) a b t → HasAdded a b (t ∷ [])
one_added wrote = record { before = wrote.room.0; tokens = wrote.ok }

pub added_more : {a b c : Written} {ts us : List Token} → HasAdded a b ts → HasAdded b c us → HasAdded a c (ts ++ us)
added_more {a} {b} {c} {ts} {us} first then' = record {
  before = then'.before ∙ first.before;
  tokens = then'.tokens ∙ ap (λ so_far. so_far ++ us) first.tokens ∙ append_assoc a.tokens ts us;
}

-- ---- Lists

each_tokens-append : (ds es : List Data) → each_tokens (ds ++ es) ≡ each_tokens ds ++ each_tokens es
each_tokens-append [] es = refl
each_tokens-append (d ∷ ds) es = ap (λ ts. tokens_of d ++ ts) (each_tokens-append ds es) ∙ sym (append_assoc (tokens_of d) (each_tokens ds) (each_tokens es))

members_tokens_of : (ds : List Data) → items_tokens (items_outline (items_of ds)) ≡ each_tokens ds ++ end_array ∷ []
members_tokens_of [] = refl
members_tokens_of (d ∷ ds) = ap (λ ts. tokens_of d ++ ts) (members_tokens_of ds) ∙ sym (append_assoc (tokens_of d) (each_tokens ds) (end_array ∷ []))

-- some more members
pub begun_many : {a b c : Written} (ds es : List Data) → HasBegun a b ds → HasAdded b c (each_tokens es) → HasBegun a c (ds ++ es)
begun_many {a} {b} {c} ds es so_far more = subst (HasAdded a c) (ap (λ ts. begin_array ∷ ts) (sym (each_tokens-append ds es))) (added_more so_far more)

pub begun_more : {a b c : Written} (ds : List Data) (d : Data) → HasBegun a b ds → IsWritten b c d → HasBegun a c (ds ++ d ∷ [])
begun_more {a} {b} {c} ds d so_far more = begun_many ds (d ∷ []) so_far (subst (HasAdded b c) (sym (append-nil (tokens_of d))) more)

-- the member with the next index
pub begun_next : {A : Type 0} {a b c : Written} (f : A → Data) (xs : List A) (i : ℕ) (x : A) → slice_get xs i ≡ Some x → HasBegun a b (map f (take i xs)) → IsWritten b c (f x) → HasBegun a c (map f (take (i + 1) xs))
begun_next {a = a} {c = c} f xs i x at so_far value = subst (HasBegun a c) (sym (ap (map f) (take-next xs i x at) ∙ map-append f (take i xs) (x ∷ []))) (begun_more (map f (take i xs)) (f x) so_far value)

-- the closing bracket
pub list_written : {a b c : Written} (ds : List Data) → HasBegun a b ds → HasAdded b c (end_array ∷ []) → IsWritten a c (list_tree ds)
list_written {a} {b} {c} ds so_far end' = subst (HasAdded a c) (ap (λ ts. begin_array ∷ ts) (sym (members_tokens_of ds))) (added_more so_far end')

-- ---- The values of the roles in a turn

pub part_begun : {T A : Type 0} (a b : Written) (part : T → List A) (f : A → Data) (o : Option T) → HasAdded a b (begin_array ∷ []) → IfSome (part_of part f 0 o) (HasBegun a b)
part_begun a b part f None begun = tt
part_begun a b part f (Some t) begun = begun

pub part_more : {T A : Type 0} (a b c : Written) (part : T → List A) (f : A → Data) (r : ℕ) (o : Option T) (x : A) → IfSome (part_of part f r o) (HasBegun a b) → option_and_then (λ t. slice_get (part t) r) o ≡ Some x → IsWritten b c (f x)
    → IfSome (part_of part f (r + 1) o) (HasBegun a c)
part_more a b c part f r None x so_far at value = tt
part_more a b c part f r (Some t) x so_far at value =
    subst (HasBegun a c) (sym (ap (map f) (take-next (part t) r x at) ∙ map-append f (take r (part t)) (x ∷ []))) (begun_more (map f (take r (part t))) (f x) so_far value)

-- after all members
pub all_written : {A : Type 0} {a b c : Written} (f : A → Data) (xs : List A) (i : ℕ) → length xs ≤ i → HasBegun a b (map f (take i xs)) → HasAdded b c (end_array ∷ []) → IsWritten a c (list_tree (map f xs))
all_written {a = a} {b = b} f xs i past so_far end' = list_written (map f xs) (subst (λ ys. HasBegun a b (map f ys)) (take_all i xs past) so_far) end'

pub part_written : {T A : Type 0} (a b c : Written) (part : T → List A) (f : A → Data) (r : ℕ) (ts : List T) (k : ℕ) → ((t : T) → slice_get ts k ≡ Some t → length (part t) ≡ r) → IfSome (part_of part f r (slice_get ts k)) (HasBegun a b)
    → HasAdded b c (end_array ∷ []) → IfSome (option_map (λ t. list_tree (map f (part t))) (slice_get ts k)) (IsWritten a c)
part_written {T} {A} a b c part f r ts k wide begun ended = go (slice_get ts k) refl begun
  where
    go : (o : Option T) → slice_get ts k ≡ o → IfSome (part_of part f r o) (HasBegun a b) → IfSome (option_map (λ t. list_tree (map f (part t))) o) (IsWritten a c)
    go None at so_far = tt
    go (Some t) at so_far = list_written (map f (part t)) (subst (λ xs. HasBegun a b (map f xs)) (take_all r (part t) (omega (arith, wide t at))) so_far) ended

pub part_texts : {T A : Type 0} (a b : Written) (part : T → List A) (f : A → List ℕ) (o : Option T) → IfSome (option_map (λ t. list_tree (map (λ x. string (f x)) (part t))) o) (IsWritten a b) → IfSome (option_map (λ t. texts_tree (map f (part t))) o) (IsWritten a b)
part_texts a b part f None written = tt
part_texts a b part f (Some t) written = subst (λ members. IsWritten a b (list_tree members)) (map_twice string f (part t)) written

some_at : {T : Type 0} (ts : List T) (k : ℕ) → k < length ts → (t : T) × (slice_get ts k ≡ Some t)
some_at [] k within = absurd (omega arith)
some_at (t ∷ ts) zero within = (t, refl)
some_at (t ∷ ts) (suc k) within = some_at ts k (omega arith)

pub turn_next : {T : Type 0} (a b c : Written) (f : T → Data) (ts : List T) (k : ℕ) → k < length ts → HasBegun a b (map f (take k ts)) → IfSome (option_map f (slice_get ts k)) (IsWritten b c) → HasBegun a c (map f (take (k + 1) ts))
turn_next a b c f ts k within so_far written =
    let here = some_at ts k within in
    begun_next f ts k here.0 here.1 so_far (subst (λ o. IfSome (option_map f o) (IsWritten b c)) here.1 written)

-- ---- The object

member_tokens-more : (ks : List Key) (at : Key) (p : RecordParts) → member_tokens (ks ++ at ∷ []) p ≡ member_tokens ks p ++ Token.key (key_text at) ∷ tokens_of (key_tree at p)
member_tokens-more [] at p = ap (λ ts. Token.key (key_text at) ∷ ts) (append-nil (tokens_of (key_tree at p)))
member_tokens-more (k ∷ ks) at p =
    ap (λ ts. Token.key (key_text k) ∷ (tokens_of (key_tree k p) ++ ts)) (member_tokens-more ks at p)
    ∙ ap (λ ts. Token.key (key_text k) ∷ ts) (sym (append_assoc (tokens_of (key_tree k p)) (member_tokens ks p) (Token.key (key_text at) ∷ tokens_of (key_tree at p))))

pub members_more : {a b c d : Written} (ks : List Key) (p : RecordParts) (at : Key) → HasMembers a b ks p → HasAdded b c (Token.key (key_text at) ∷ []) → IsWritten c d (key_tree at p) → HasMembers a d (ks ++ at ∷ []) p
members_more {a} {b} {c} {d} ks p at so_far key value = subst (HasAdded a d) (ap (λ ts. begin_object ∷ ts) (sym (member_tokens-more ks at p))) (added_more so_far (added_more key value))

pub members_next : {a b c d : Written} (i : ℕ) (other : Key) (p : RecordParts) (text : List ℕ) → i < length keys → text ≡ key_text (get_or keys i other) → HasMembers a b (take i keys) p → HasAdded b c (Token.key text ∷ []) → IsWritten c d (key_tree (get_or keys i other) p)
    → HasMembers a d (take (i + 1) keys) p
members_next {a} {b} {c} {d} i other p text below text_is so_far key value =
    subst (λ ks. HasMembers a d ks p) (sym (take_more keys i other below)) (members_more (take i keys) p (get_or keys i other) so_far (subst (λ t. HasAdded b c (Token.key t ∷ [])) text_is key) value)

object_tokens : (ks : List Key) (p : RecordParts) → members_tokens (members_outline (members_at ks p)) ≡ member_tokens ks p ++ end_object ∷ []
object_tokens [] p = refl
object_tokens (k ∷ ks) p =
    ap (λ ts. Token.key (key_text k) ∷ (tokens_of (key_tree k p) ++ ts)) (object_tokens ks p)
    ∙ ap (λ ts. Token.key (key_text k) ∷ ts) (sym (append_assoc (tokens_of (key_tree k p)) (member_tokens ks p) (end_object ∷ [])))

pub object_written : {a b c : Written} (ks : List Key) (p : RecordParts) → HasMembers a b ks p → HasAdded b c (end_object ∷ []) → IsWritten a c (object (members_at ks p))
object_written {a} {b} {c} ks p so_far end' = subst (HasAdded a c) (ap (λ ts. begin_object ∷ ts) (sym (object_tokens ks p))) (added_more so_far end')

-- ---- Reading it

-- converting the outline of the value gives the value
abbrev pub ReadsBack : Data → Type 0
ReadsBack d = of_json (outline d) ≡ Some d

whole_reads : (n : ℕ) → n < 2 ^ 64 → ReadsBack (whole_tree n)
whole_reads n small = ap (option_map number) (number_of-decimal n small)

list_reads : (ds : List Data) → of_items (items_outline (items_of ds)) ≡ Some (items_of ds) → ReadsBack (list_tree ds)
list_reads ds members = ap (option_map array) members

texts_read : (ts : List (List ℕ)) → of_items (items_outline (items_of (map string ts))) ≡ Some (items_of (map string ts))
texts_read [] = refl
texts_read (t ∷ ts) = ap (option_map (item (string t))) (texts_read ts)

text_or_null_reads : (o : Option (List ℕ)) → ReadsBack (text_or_null o)
text_or_null_reads None = refl
text_or_null_reads (Some t) = refl

marks_read : (marks : List (Option Mark)) → of_items (items_outline (items_of (map mark_tree marks))) ≡ Some (items_of (map mark_tree marks))
marks_read [] = refl
marks_read (m ∷ ms) = rw (text_or_null_reads (option_map mark_text m)) (ap (option_map (item (mark_tree m))) (marks_read ms))

lists_read : (lists : List (List (List ℕ))) → of_items (items_outline (items_of (map texts_tree lists))) ≡ Some (items_of (map texts_tree lists))
lists_read [] = refl
lists_read (texts ∷ more) = rw (texts_read texts) (ap (option_map (item (texts_tree texts))) (lists_read more))

goals_small : (roles : ℕ) (goals : List ℕ) → AreGoals roles goals → All (λ goal. goal ≤ max_goal) goals
goals_small roles goals (inl none) = λ k d below. absurd (omega (arith, ap length none))
goals_small roles goals (inr each) = each.1

goals_read : (goals : List ℕ) → All (λ goal. goal ≤ max_goal) goals → of_items (items_outline (items_of (map whole_tree goals))) ≡ Some (items_of (map whole_tree goals))
goals_read [] small = refl
goals_read (goal ∷ more) small =
    let here : goal ≤ max_goal = small 0 goal (omega arith) in
    let later : All (λ other. other ≤ max_goal) more = λ k d within. small (suc k) d (omega (arith, within)) in
    rw (whole_reads goal (omega (arith, here))) (ap (option_map (item (whole_tree goal))) (goals_read more later))

clock_reads : (seconds : ℕ) → is_clock seconds ≡ true → ReadsBack (whole_tree seconds)
clock_reads seconds is = let few : seconds ≤ max_clock = grind (arith, nat_tests) in whole_reads seconds (omega (arith, few))

strikes_read : (strikes : ℕ) → is_strikes strikes ≡ true → ReadsBack (whole_tree strikes)
strikes_read strikes is = let few : strikes ≤ max_strikes = grind (arith, nat_tests) in whole_reads strikes (omega (arith, few))

version_reads : (version : Version) → ReadsBack (version_tree version)
version_reads First = whole_reads 1 (omega arith)
version_reads Second = whole_reads 2 (omega arith)

key_reads : {S M : Type 0} (g : Rules S M) (p : RecordParts) → HasShape g p → (at : Key) → ReadsBack (key_tree at p)
key_reads g p shape AtCause = text_or_null_reads (option_map cause_text p.cause)
key_reads g p shape EndMarks = list_reads _ (marks_read p.end_marks)
key_reads g p shape Errors = list_reads _ (lists_read p.errors)
key_reads g p shape GoalValues = list_reads _ (goals_read p.goals (goals_small g.roles p.goals (shape.keys GoalValues)))
key_reads g p shape MatchId = refl
key_reads g p shape Moves = list_reads _ (lists_read p.moves)
key_reads g p shape AtPhase = refl
key_reads g p shape PlayClock = clock_reads p.play (shape.keys PlayClock)
key_reads g p shape Players = list_reads _ (texts_read p.players)
key_reads g p shape Roles = list_reads _ (texts_read p.roles)
key_reads g p shape StartClock = clock_reads p.start (shape.keys StartClock)
key_reads g p shape StartMarks = list_reads _ (marks_read p.start_marks)
key_reads g p shape States = list_reads _ (lists_read p.states)
key_reads g p shape Strikes = strikes_read p.strikes (shape.keys Strikes)
key_reads g p shape AtVersion = version_reads p.version

-- the values of these parts at these keys, put into an object one after another
abbrev pub put_each : List Key → RecordParts → Members → Members
put_each [] p ms = ms
put_each (key ∷ more) p ms = put_each more p (put (key_text key) (key_tree key p) ms)

-- keys that are put in byte order stay in this order
pub put_all : (p : RecordParts) → put_each keys p no_members ≡ members_at keys p
put_all p = refl

members_read : {S M : Type 0} (g : Rules S M) (p : RecordParts) → HasShape g p → (ks : List Key) (found : Members) → of_members (members_outline (members_at ks p)) found ≡ Some (put_each ks p found)
members_read g p shape [] found = refl
members_read g p shape (at ∷ more) found = rw (key_reads g p shape at) (members_read g p shape more (put (key_text at) (key_tree at p) found))

record_reads : {S M : Type 0} (g : Rules S M) (p : RecordParts) → HasShape g p → ReadsBack (object (members_at keys p))
record_reads g p shape = ap (option_map object) (members_read g p shape keys no_members ∙ ap Some (put_all p))

-- an outline nests as deep as its value
mutual
  outline_depth : (d : Data) → tree.depth (outline d) ≡ depth d
  outline_depth null = refl
  outline_depth (boolean b) = refl
  outline_depth (number n) = refl
  outline_depth (string s) = refl
  outline_depth (array ds) = ap suc (items_outline_depth ds)
  outline_depth (object ms) = ap suc (members_outline_depth ms)

  items_outline_depth : (ds : Items) → tree.items_depth (items_outline ds) ≡ items_depth ds
  items_outline_depth no_items = refl
  items_outline_depth (item d ds) = rw (outline_depth d, items_outline_depth ds) refl

  members_outline_depth : (ms : Members) → tree.members_depth (members_outline ms) ≡ members_depth ms
  members_outline_depth no_members = refl
  members_outline_depth (member k d ms) = rw (outline_depth d, members_outline_depth ms) refl

-- the value that the tokens are read as
whole : Option (json.Json × List Token) → Option Data
whole o = option_and_then of_json (option_and_then (λ p. json.if_last p.0 p.1) o)

text_reads : (d : Data) (text : List ℕ) → ReadsBack d → depth d ≤ max_depth → tokens text ≡ tokens_of d → read text ≡ Some d
unfolding whole
text_reads d text back shallow same =
    ap whole (ap (json.value max_depth) (same ∙ sym (append-nil (tokens_of d))) ∙ value-json_tokens (outline d) max_depth [] (omega (arith, outline_depth d))) ∙ back

tree_reads : {S M : Type 0} (g : Rules S M) → LawfulPartsHaveShape g → (m : MatchValue M) → IsLawfulMatch g m → IsLawfulSetup m.setup → ReadsBack (record_tree g m)
unfolding record_tree
tree_reads g shapes m lawful setup = record_reads g (parts_of g m) (shapes m Second lawful setup)

tokens_written : {a b : Written} {ts : List Token} → a.tokens ≡ [] → HasAdded a b ts → b.tokens ≡ ts
tokens_written {ts = ts} fresh added = added.tokens ∙ ap (λ so_far. so_far ++ ts) fresh

printed : {S M : Type 0} (g : Rules S M) (m : MatchValue M) (a b : Written) → a.tokens ≡ [] → HasAdded a b (tokens_of (record_tree g m)) → print b.tokens ≡ record_text g m
printed g m a b fresh added = ap print (tokens_written fresh added) ∙ print-outline (record_tree g m)

pub text_written : {S M : Type 0} (g : Rules S M) (m : MatchValue M) (a b : Written) → a.tokens ≡ [] → HasAdded a b (tokens_of (record_tree g m)) → b.before ++ print b.tokens ≡ a.before ++ record_text g m
text_written g m a b fresh added = ap (λ front. front ++ print b.tokens) added.before ∙ ap (λ text. a.before ++ text) (printed g m a b fresh added)

pub text_is_json : {S M : Type 0} (g : Rules S M) → LawfulPartsHaveShape g → (m : MatchValue M) (a b : Written) → IsLawfulMatch g m → IsLawfulSetup m.setup → a.tokens ≡ [] → HasAdded a b (tokens_of (record_tree g m))
    → tokens (print b.tokens) ≡ b.tokens → IsUtf8 (print b.tokens) → IsJson (record_text g m) (record_tree g m)
text_is_json g shapes m a b lawful setup fresh added reads_back utf8 =
    let same = printed g m a b fresh added in
    record {
      utf8 = subst IsUtf8 same utf8;
      is_read = text_reads (record_tree g m) (record_text g m) (tree_reads g shapes m lawful setup) (record_is_shallow g m) (ap tokens (sym same) ∙ reads_back ∙ tokens_written fresh added);
    }
