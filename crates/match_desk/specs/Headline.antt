-- The main theorem about a closed desk of matches, both behind a lock and over rings.
use Rattle.std.specs.Prelude.{◌≡◌, ℕ, List, length, sum, Some, All, slice_get}
use Rattle.game_core.specs.Play.{Rules, AreLegal}
use Rattle.match_book.specs.MatchValue.{joint_moves}
use Rattle.call_history.specs.History.{IsReplay}
use Rattle.call_history.specs.declared.journal.Entry.{Entry}
use Rattle.match_desk.specs.ManagerValue.{DeskMatch, ManagerValue, opening, IsLawfulManager}
use Rattle.match_desk.specs.Steps.{reply, after}
use Rattle.match_desk.specs.Accepted.{AreAccounted}
use Rattle.desk_calls.specs.declared.call.Call.{Call}
use Rattle.desk_calls.specs.declared.call.Reply.{Reply}

-- the match's joint moves are legal turns of its game
pub record IsPlayedLegally {G S M : Type 0} (rules : G → Rules S M) (games : List G) (m : DeskMatch M) : Type 0 where
  pub game : G
  pub is_game : slice_get games m.game ≡ Some game
  pub legal : AreLegal (rules game) (joint_moves m.value.turns)

-- each match was played legally
abbrev pub ArePlayedLegally : {G S M : Type 0} → (G → Rules S M) → ManagerValue G M → Type 0
ArePlayedLegally rules d = All (IsPlayedLegally rules d.games) d.matches

-- A desk with this many lines was closed with this manager, this history, and these numbers of calls of the lines.
pub record HasHeadline {G S M : Type 0} (rules : G → Rules S M) (lines : ℕ) (d : ManagerValue G M) (history : List (Entry Call Reply)) (made_by_line : List ℕ) : Type 0 where
  -- replaying the history call by call on one thread, from the games without matches, gives every stored reply and this manager
  pub replay : IsReplay (reply rules) (after rules) opening d history
  pub one_each : length made_by_line ≡ lines
  -- the history has as many calls as the lines made
  pub counted : sum made_by_line ≡ length history
  -- each match is lawful, with a setup that can be opened and a unique id
  pub lawful : IsLawfulManager rules d
  -- each match's recorded joint moves are legal turns of its game
  pub legal : ArePlayedLegally rules d
  -- For each recorded move of a role that the earlier turns do not retire, the history took exactly one answer of the role, and the move and
  -- its error are the judgement of this answer. The history took no answer from a role that the earlier turns retire.
  pub accounted : AreAccounted rules d history
