-- Which calls may need memory, apart from the memory for their entries in the history.
use Rattle.std.specs.Prelude.{ℕ, List, IsSomeAnd, ⊤}
use Rattle.game_core.specs.Play.{Rules}
use Rattle.match_book.specs.Due.{OwesMoves}
use Rattle.match_book.specs.Steps.{MayWantMemory}
use Rattle.match_desk.specs.ManagerValue.{ManagerValue, match_with_id}
use Rattle.desk_calls.specs.declared.call.Call.{Call}
use Rattle.desk_calls.specs.declared.call.Call.TheVariants.{Open, Next, Submit, Miss, Query, Abort}
use Rattle.desk_calls.specs.declared.call.Reply.{Reply}
use Rattle.desk_calls.specs.declared.call.Reply.TheVariants.{Opened, Due, Taken, Status, Aborting, Refused}

-- the reply has the texts of a joint move
abbrev pub CarriesTexts : Reply → Type 0
CarriesTexts Opened = ⊥
CarriesTexts (Due due) = OwesMoves due
CarriesTexts Taken = ⊥
CarriesTexts (Status status) = ⊥
CarriesTexts Aborting = ⊥
CarriesTexts (Refused reason) = ⊥

-- taking an answer of the role in the match with this id may need memory
abbrev pub AnswerWantsMemory : {G S M : Type 0} → (G → Rules S M) → ManagerValue G M → List ℕ → ℕ → Type 0
AnswerWantsMemory rules d id role = IsSomeAnd (match_with_id d id) (λ m. MayWantMemory (rules m.game) m.value role)

-- Making the call may need memory: for a new match, or for an answer.
abbrev pub WantsMemory : {G S M : Type 0} → (G → Rules S M) → ManagerValue G M → Call → Type 0
WantsMemory rules d (Open id game start play strikes players) = ⊤
WantsMemory rules d (Next id role) = ⊥
WantsMemory rules d (Submit id role round text) = AnswerWantsMemory rules d id role
WantsMemory rules d (Miss id role round broken) = AnswerWantsMemory rules d id role
WantsMemory rules d (Query id) = ⊥
WantsMemory rules d (Abort id) = ⊥
