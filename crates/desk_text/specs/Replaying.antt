-- Why a call log is refused.
use Rattle.std.specs.Prelude.{◌≡◌, ◌≢◌, ℕ, ◌+◌, List, ◌∷◌, ◌++◌, map, length, Some, None}
use Rattle.std.specs.List.{AllByRecursion}
use Rattle.call_history.specs.History.{IsLegalHistory, run}
use Rattle.call_history.specs.declared.journal.Entry.{Entry}
use Rattle.desk_calls.specs.declared.call.Call.{Call}
use Rattle.desk_calls.specs.declared.call.Reply.{Reply}
use Rattle.desk_text.specs.Account.{IsAccount, IsRead, entry_call, entry_text}
use Rattle.desk_text.specs.declared.replaying.ReplayFault.{ReplayFault}
use Rattle.desk_text.specs.declared.replaying.ReplayFault.TheVariants.{Memory, NoEntry, Differs}

-- Why the line with this number, counted from 1, is refused in this state of the object: it has no valid call, or it is not exactly
-- the text of the call and its reply.
abbrev pub RefusesLine : {S : Type 0} → (S → Call → Reply) → S → ℕ → List ℕ → ReplayFault → Type 0
RefusesLine reply s place text Memory = Unit {0}
RefusesLine reply s place text (NoEntry at why) = (at ≡ place) × (entry_call text ≡ None)
RefusesLine reply s place text (Differs at right) = (at ≡ place) × (e : Entry Call Reply) × (entry_call text ≡ Some (e.line, e.call)) × (e.reply ≡ reply s e.call) × (right.items ≡ entry_text e) × (text ≢ entry_text e)

-- the lines before some line are those of a legal history, and that line is refused with this error
pub record IsFirstFault {S : Type 0} (reply : S → Call → Reply) (after : S → Call → S) (start : S) (lines : List (List ℕ)) (fault : ReplayFault) : Type 0 where
  pub history : List (Entry Call Reply)
  pub line : List ℕ
  pub rest : List (List ℕ)
  pub cut : lines ≡ map entry_text history ++ line ∷ rest
  pub are_read : AllByRecursion IsRead history
  pub legal : IsLegalHistory reply after start history
  pub refused : RefusesLine reply (run after start history) (length history + 1) line fault

-- these are not the lines of a history that is legal from this start
abbrev pub TellNoHistory : {S : Type 0} → (S → Call → Reply) → (S → Call → S) → S → List (List ℕ) → Type 0
TellNoHistory {S} reply after start lines = (object : S) (calls : ℕ) → ¬ IsAccount reply after start lines object calls
