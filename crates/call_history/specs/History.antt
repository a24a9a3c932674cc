-- The value after a history, and when a history is legal, for any object. An object is described by its reply to a call, its value after a
-- call, and its opening, which is its value before all calls.
use Rattle.std.specs.Prelude.{◌≡◌, ℕ, List, [], ◌∷◌, ◌++◌}
use Rattle.call_history.specs.declared.journal.Entry.{Entry}

-- a journal as contracts see it
pub record JournalValue (S C R : Type 0) : Type 0 where
  pub object : S
  pub history : List (Entry C R)
  pub most : ℕ

-- the value after all calls of a history, made one after another
abbrev pub run : {S C R : Type 0} → (S → C → S) → S → List (Entry C R) → S
run after s [] = s
run after s (e ∷ es) = run after (after s e.call) es

-- each reply is the object's reply after the entries before it
abbrev pub IsLegalHistory : {S C R : Type 0} → (S → C → R) → (S → C → S) → S → List (Entry C R) → Type 0
IsLegalHistory reply after s [] = Unit {0}
IsLegalHistory reply after s (e ∷ es) = (e.reply ≡ reply s e.call) × IsLegalHistory reply after (after s e.call) es

pub record IsReplay {S C R : Type 0} (reply : S → C → R) (after : S → C → S) (opening : S → S) (object : S) (history : List (Entry C R)) : Type 0 where
  pub legal : IsLegalHistory reply after (opening object) history
  pub leaves : object ≡ run after (opening object) history

-- some history that is legal from an opening ends with this entry
pub record EndsLegalHistory {S C R : Type 0} (reply : S → C → R) (after : S → C → S) (opening : S → S) (entry : Entry C R) : Type 0 where
  pub start : S
  pub before : List (Entry C R)
  pub is_opening : opening start ≡ start
  pub legal : IsLegalHistory reply after start (before ++ entry ∷ [])
