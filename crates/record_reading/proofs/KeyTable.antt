-- The keys of a record, one after another: how their values are read into the parts, and how they are written.
use Rattle.std.proofs.Common.{◌≡◌, ℕ, zero, suc, ◌+◌, ◌<◌, Bool, true, false, Option, Some, List, [], ◌∷◌, ◌++◌, length, get_or, take, drop, map, refl, sym, ap, ◌∙◌, subst, append_assoc, arith, inl, inr, Result}
use Rattle.std.specs.Prelude.{All, IfErr, IsErrAnd, ◌⊎◌}
use Rattle.std.proofs.lemmas.List.{take_more, take-append-drop, get_or-map, get_or_append_left}
use Rattle.std.proofs.lemmas.Option.{get_or_from_slice_get}
use Rattle.std.proofs.lemmas.Result.{err_from_is_err_and}
use Rattle.serde_json.specs.Data.{Data}
use Rattle.serde_json.specs.Find.{get}
use Rattle.game_core.specs.Play.{Rules}
use Rattle.record_reading.specs.Internal.KeyReading.{HoldsForEach, SayTheSame, keys_before, IsReadInto, IsReadAt}
use Rattle.record_reading.specs.Internal.Shown.{Shows}
use Rattle.record_reading.specs.LawfulRecord.{IsShaped, IsFirstWithout, IsJson, HasNoShape}
use Rattle.record_reading.specs.RecordParts.{prefixes}
use Rattle.record_reading.specs.RecordTree.{row_of, keys, key_text, found_at, version_of}
use Rattle.record_reading.specs.declared.record_parts.Key.{Key}
use Rattle.record_reading.specs.declared.record_parts.Key.TheVariants.{Cause as AtCause, EndMarks, Errors, GoalValues, MatchId, Moves, Phase as AtPhase, PlayClock, Players, Roles, StartClock, StartMarks, States, Strikes, Version as AtVersion}
use Rattle.record_reading.specs.declared.record_parts.RecordParts.{RecordParts}
use Rattle.record_reading.specs.declared.record_parts.Version.{Version}
use Rattle.record_reading.specs.declared.verify_fault.VerifyFault.{VerifyFault}
use Rattle.record_reading.specs.declared.verify_fault.VerifyFault.TheVariants.{BadShape, Memory}
use Rattle.record_reading.proofs.RecordShapes.{prefixes_get}

pub each_key : (P : Key → Type 0) → HoldsForEach P keys → (key : Key) → P key
each_key P held AtCause = held.0
each_key P held EndMarks = held.1.0
each_key P held Errors = held.1.1.0
each_key P held GoalValues = held.1.1.1.0
each_key P held MatchId = held.1.1.1.1.0
each_key P held Moves = held.1.1.1.1.1.0
each_key P held AtPhase = held.1.1.1.1.1.1.0
each_key P held PlayClock = held.1.1.1.1.1.1.1.0
each_key P held Players = held.1.1.1.1.1.1.1.1.0
each_key P held Roles = held.1.1.1.1.1.1.1.1.1.0
each_key P held StartClock = held.1.1.1.1.1.1.1.1.1.1.0
each_key P held StartMarks = held.1.1.1.1.1.1.1.1.1.1.1.0
each_key P held States = held.1.1.1.1.1.1.1.1.1.1.1.1.0
each_key P held Strikes = held.1.1.1.1.1.1.1.1.1.1.1.1.1.0
each_key P held AtVersion = held.1.1.1.1.1.1.1.1.1.1.1.1.1.1.0

pub each_same : (A : Key → Type 0) (f : (key : Key) → A key) (ks : List Key) → HoldsForEach (λ key. f key ≡ f key) ks
each_same A f [] = tt
each_same A f (key ∷ more) = (refl, each_same A f more)

pub each_and : (P Q R : Key → Type 0) → ((key : Key) → P key → Q key → R key) → (ks : List Key) → HoldsForEach P ks → HoldsForEach Q ks → HoldsForEach R ks
each_and P Q R both [] held also = tt
each_and P Q R both (key ∷ more) held also = (both key held.0 also.0, each_and P Q R both more held.1 also.1)

pub each_more : (P : Key → Type 0) (ks : List Key) (key : Key) → HoldsForEach P ks → P key → HoldsForEach P (ks ++ key ∷ [])
each_more P [] key held last = (last, tt)
each_more P (k ∷ ks) key held last = (held.0, each_more P ks key held.1 last)

all_of : (P Q : Key → Type 0) → ((key : Key) → P key → Q key) → (ks : List Key) → HoldsForEach P ks → All Q ks
all_of P Q so [] held k d below = absurd (omega arith)
all_of P Q so (key ∷ more) held zero d below = so key held.0
all_of P Q so (key ∷ more) held (suc k) d below = all_of P Q so more held.1 k d (omega arith)

fronts : map (λ key. keys_before key keys) keys ++ keys ∷ [] ≡ prefixes keys
fronts = refl

before_at : (i : ℕ) (d : Key) → i < length keys → keys_before (get_or keys i d) keys ≡ take i keys
before_at i d below =
    sym (get_or-map (λ key. keys_before key keys) keys i d [] below) ∙ sym (get_or_append_left (map (λ key. keys_before key keys) keys) (keys ∷ []) [] i below) ∙ ap (λ ls. get_or ls i []) fronts
    ∙ get_or_from_slice_get (prefixes keys) i (take i keys) [] (prefixes_get keys i (omega arith))

-- the same number of roles, in another expression
pub by_roles : {A : Type 0} (written : A → Data) (Fits : ℕ → A → Type 0) (found : Option Data) (read : Option A) {n m : ℕ} → n ≡ m → Shows written (Fits n) found read → Shows written (Fits m) found read
by_roles written Fits found read same shows = subst (λ k. Shows written (Fits k) found read) same shows

counted : {S M : Type 0} (g : Rules S M) (tree : Data) (version : Option Version) (found : Option Data) (key : Key) → version ≡ version_of tree → found ≡ get (key_text key) tree → (row_of key).counts version found ≡ found_at tree key
counted g tree version found key of is = ap (λ v. (row_of key).counts v found) of ∙ ap ((row_of key).counts (version_of tree)) is

pub read_more : {S M : Type 0} (g : Rules S M) (tree : Data) (version : Option Version) (found : Option Data) (p q : RecordParts) (i : ℕ) (d : Key) (b : Bool) → i < length keys → version ≡ version_of tree → found ≡ get (key_text (get_or keys i d)) tree
    → IsReadInto g (get_or keys i d) version found q b
    → b ≡ true → SayTheSame (keys_before (get_or keys i d) keys) p q → HoldsForEach (IsReadAt g tree p) (take i keys) → HoldsForEach (IsReadAt g tree q) (take (i + 1) keys)
read_more g tree version found p q i d false below of is none right kept held = absurd cc
read_more g tree version found p q i d true below of is read right kept held =
    let same : SayTheSame (take i keys) p q = subst (λ (ks : List Key). SayTheSame ks p q) (before_at i d below) kept in
    let earlier : HoldsForEach (IsReadAt g tree q) (take i keys) = each_and (IsReadAt g tree p) (λ k. (row_of k).said p ≡ (row_of k).said q) (IsReadAt g tree q) moved (take i keys) held same in
    subst (HoldsForEach (IsReadAt g tree q)) (sym (take_more keys i d below)) (each_more (IsReadAt g tree q) (take i keys) (get_or keys i d) earlier (sym (counted g tree version found (get_or keys i d) of is) ∙ read.0, read.1))
  where
    moved : (k : Key) → IsReadAt g tree p k → (row_of k).said p ≡ (row_of k).said q → IsReadAt g tree q k
    moved k there same = subst (λ (x : (row_of k).Value). (found_at tree k ≡ Some ((row_of k).written x)) × (row_of k).IsOfShape g x) same there

pub not_read : {S M : Type 0} (g : Rules S M) (tree : Data) (version : Option Version) (found : Option Data) (p q : RecordParts) (i : ℕ) (d : Key) (b : Bool) → i < length keys → version ≡ version_of tree → found ≡ get (key_text (get_or keys i d)) tree
    → IsReadInto g (get_or keys i d) version found q b
    → b ≡ false → HoldsForEach (IsReadAt g tree p) (take i keys) → IsFirstWithout (IsShaped g tree) keys (get_or keys i d)
not_read g tree version found p q i d true below of is read wrong held = absurd cc
not_read g tree version found p q i d false below of is none wrong held = (
  take i keys,
  drop (i + 1) keys,
  sym (take-append-drop (i + 1) keys) ∙ ap (λ ks. ks ++ drop (i + 1) keys) (take_more keys i d below) ∙ append_assoc (take i keys) (get_or keys i d ∷ []) (drop (i + 1) keys),
  all_of (IsReadAt g tree p) (IsShaped g tree) (λ k there. ((row_of k).said p, there.0, there.1)) (take i keys) held,
  λ (x, there, fits). none x (counted g tree version found (get_or keys i d) of is ∙ there) fits,
)

-- the error with which reading ends at a key
abbrev pub EndsAt : {S M : Type 0} → Rules S M → Data → VerifyFault → Type 0
EndsAt g tree fault = (fault ≡ Memory) ⊎ ((key : Key) × (fault ≡ BadShape key) × IsFirstWithout (IsShaped g tree) keys key)

pub ends_read : {S M T : Type 0} {fault : VerifyFault} (g : Rules S M) (text : List ℕ) (tree : Data) (r : Result T VerifyFault) → IsErrAnd r (λ f. f ≡ fault) → IsJson text tree → EndsAt g tree fault → IfErr r (HasNoShape g text)
ends_read {fault = fault} g text tree r is json why =
    let same = err_from_is_err_and r is in
    rw (same.1, same.2) (go why)
  where
    go : EndsAt g tree fault → HasNoShape g text fault
    go (inl memory) = subst (HasNoShape g text) (sym memory) tt
    go (inr (key, bad, first)) = subst (HasNoShape g text) (sym bad) (tree, json, inl first)
