-- The output of a season.
use Rattle.std.specs.Prelude.{◌≡◌, ◌≤◌, ◌<◌, ◌+◌, ◌^◌, ◌&&◌, ◌∷◌, ◌++◌, ◌⊎◌, ℕ, zero, suc, Bool, true, false, List, [], Option, None, Some, Result, Ok, Err, All, count_by, get_or, if◌then◌else◌, is_ok, length, not, slice_set}
use Rattle.std.specs.List.{AllZip, concat}
use Rattle.std.specs.Io.KnownBytes.{Appends}
use Rattle.game_core.specs.Counting.{one_more}
use Rattle.match_plans.specs.declared.season_form.RecordOrder.{RecordOrder}
use Rattle.match_plans.specs.declared.season_form.RecordOrder.TheVariants.{OfSchedule}
use Rattle.whole_streams.specs.Streams.{AppendsPart}
use Rattle.match_season.specs.Queues.{times}
use Rattle.match_season.specs.declared.season_output.SeasonFault.{SeasonFault}
use Rattle.match_season.specs.declared.season_output.SeasonFault.TheVariants.{WriteFault, Memory}
use Rattle.match_season.specs.declared.written.Written.{Written}

-- the outputs of the matches with these indices were written, one after another
pub record WritesMatches (IsOutput : ℕ → List ℕ → Type 0) (places : List ℕ) (old new : Option (List ℕ)) : Type 0 where
  pub texts : List (List ℕ)
  pub are_outputs : AllZip (λ place text. ∥ IsOutput place text ∥₁) places texts
  pub appended : Appends old new (concat texts)

-- a prefix of the output of the match with this index was written
pub record WritesPart (IsOutput : ℕ → List ℕ → Type 0) (place : ℕ) (old new : Option (List ℕ)) : Type 0 where
  pub text : List ℕ
  pub is_output : ∥ IsOutput place text ∥₁
  pub part : AppendsPart old new text

-- there is a match with this index, and it is not settled
abbrev pub is_open : List Bool → ℕ → Bool
is_open settled place = not (get_or settled place true)

-- 1 for a settled match, and 0 for any other
abbrev pub mark : List Bool → ℕ → ℕ
mark settled place = if get_or settled place false then 1 else 0

-- a list of only this index, if the result of the match is a record and the match is not settled yet; otherwise an empty list
abbrev pub places_of : {T E : Type 0} → Written → ℕ → Result T E → List ℕ
places_of written place outcome = if is_ok outcome && is_open written.is_settled.items place then place ∷ [] else []

-- this many more records are counted, unless the count is at its maximum
abbrev pub Counts : Written → Written → ℕ → Type 0
Counts old new more = old.records + more < 2 ^ 64 → new.records ≡ old.records + more

-- the match with this index, and no other, becomes settled; this many more records are counted
pub record Settles (old new : Written) (place more : ℕ) : Type 0 where
  pub settled : new.is_settled.items ≡ slice_set old.is_settled.items place true
  pub counted : Counts old new more

-- each result is stored at the index of its match
abbrev pub ArePlaced : {T : Type 0} → (T → ℕ) → List (Option T) → Type 0
ArePlaced {T} place_of waiting = (place : ℕ) (over : T) → get_or waiting place None ≡ Some over → place_of over ≡ place

-- this many more matches, starting at this index, are settled
abbrev pub settled_on : List Bool → ℕ → ℕ → List Bool
settled_on settled from zero = settled
settled_on settled from (suc count) = slice_set (settled_on settled from count) (from + count) true

abbrev pub settled_in : Written → ℕ
settled_in written = count_by (λ it. it) written.is_settled.items

abbrev pub AreSettled : Written → Type 0
AreSettled written = All (λ it. it ≡ true) written.is_settled.items

-- each match is settled, or no more results can come
abbrev pub HasAll : Bool → Written → Type 0
HasAll is_closed written = AreSettled written ⊎ (is_closed ≡ true)

-- the indices rise; all are at least `low` and less than `high`
abbrev pub Rises : ℕ → List ℕ → ℕ → Type 0
Rises low [] high = low ≤ high
Rises low (place ∷ places) high = (low ≤ place) × Rises (place + 1) places high

-- The outputs of matches were written in this order, each once. The matches were not settled before, and are settled afterwards. The count
-- of records grows by the number of these matches.
pub record WritesMore (IsOutput : ℕ → List ℕ → Type 0) (InOrder : List ℕ → Type 0) (before after : Written) (old new : Option (List ℕ)) : Type 0 where
  pub places : List ℕ
  pub in_order : InOrder places
  pub written : WritesMatches IsOutput places old new
  pub once : (place : ℕ) → times places place + mark before.is_settled.items place ≤ mark after.is_settled.items place
  pub so_many : length places + settled_in before ≤ settled_in after
  pub counted : Counts before after (length places)
  pub same_places : length after.is_settled.items ≡ length before.is_settled.items

-- The same, and then a prefix of the output of one more match was written. That match was not settled before. Its index is the last one of
-- the order.
pub record WritesMoreAndPart (IsOutput : ℕ → List ℕ → Type 0) (InOrder : List ℕ → Type 0) (before : Written) (old new : Option (List ℕ)) : Type 0 where
  pub last : ℕ
  pub between : Written
  pub middle : Option (List ℕ)
  pub whole : WritesMore IsOutput (λ places. InOrder (places ++ last ∷ [])) before between old middle
  pub was_open : is_open between.is_settled.items last ≡ true
  pub part : WritesPart IsOutput last middle new

-- The outputs of all but `missing` matches were written, each once, and in the order of the schedule if `order` asks for it.
pub record WritesAllBut (IsOutput : ℕ → List ℕ → Type 0) (order : RecordOrder) (missing all : ℕ) (old new : Option (List ℕ)) : Type 0 where
  pub places : List ℕ
  pub others : length places + missing ≡ all
  pub once : (place : ℕ) → times places place ≤ 1
  pub in_order : order ≡ OfSchedule → Rises 0 places all
  pub written : WritesMatches IsOutput places old new

-- The outputs of the matches with these indices were written, and then a prefix of the output of one more match. Each
-- index occurs once. They are in the order of the schedule if `order` asks for it.
pub record WritesSomeAndPart (IsOutput : ℕ → List ℕ → Type 0) (order : RecordOrder) (all : ℕ) (old new : Option (List ℕ)) : Type 0 where
  pub places : List ℕ
  pub last : ℕ
  pub once : (place : ℕ) → times (places ++ last ∷ []) place ≤ 1
  pub in_order : order ≡ OfSchedule → Rises 0 (places ++ last ∷ []) all
  pub middle : Option (List ℕ)
  pub written : WritesMatches IsOutput places old middle
  pub part : WritesPart IsOutput last middle new

-- before a write fault, whole outputs and part of one more output were written; before an out-of-memory error, nothing was written
abbrev pub WritesUpTo : (ℕ → List ℕ → Type 0) → RecordOrder → ℕ → Option (List ℕ) → Option (List ℕ) → SeasonFault → Type 0
WritesUpTo IsOutput order all old new WriteFault = WritesSomeAndPart IsOutput order all old new
WritesUpTo IsOutput order all old new Memory = new ≡ old

-- a write fault adds one failed write to the count, and an out-of-memory error adds none
abbrev pub faults_by : SeasonFault → ℕ → ℕ
faults_by WriteFault faults = one_more faults
faults_by Memory faults = faults

abbrev pub faults_after : {T : Type 0} → Result T SeasonFault → ℕ → ℕ
faults_after (Ok x) faults = faults
faults_after (Err fault) faults = faults_by fault faults
