-- The reply of a manager to a call, and the manager after the call.
use Rattle.std.specs.Prelude.{ℕ, Bool, true, false, nat_lt, if◌then◌else◌, List, map, Option, Some, None, option_map, unwrap_or}
use Rattle.game_core.specs.Play.{Rules}
use Rattle.match_book.specs.MatchValue.{MatchValue}
use Rattle.match_book.specs.Phase.{stage, status, is_live}
use Rattle.match_book.specs.Due.{due}
use Rattle.match_book.specs.Steps.{refusal, after_answer, after_abort}
use Rattle.desk_calls.specs.declared.setup.Setup.{Setup}
use Rattle.desk_calls.specs.declared.answer.Answer.{Answer}
use Rattle.desk_calls.specs.declared.answer.Answer.TheVariants.{Text, Silent, Broken}
use Rattle.match_book.specs.declared.answer.AnswerRefusal.{AnswerRefusal}
use Rattle.match_book.specs.declared.answer.AnswerRefusal.TheVariants.{NoRole as MatchNoRole, Over as MatchOver, Stale as MatchStale, Twice as MatchTwice}
use Rattle.match_desk.specs.ManagerValue.{ManagerValue, DeskMatch, has_id, game_of, match_with_id}
use Rattle.match_desk.specs.Open.{open_refusal, after_open}
use Rattle.desk_calls.specs.declared.call.Call.{Call}
use Rattle.desk_calls.specs.declared.call.Call.TheVariants.{Open, Next, Submit, Miss, Query, Abort}
use Rattle.desk_calls.specs.declared.call.Reply.{Reply}
use Rattle.desk_calls.specs.declared.call.Reply.TheVariants.{Opened, Due, Taken, Status, Aborting, Refused}
use Rattle.desk_calls.specs.declared.call.Refusal.{Refusal}
use Rattle.desk_calls.specs.declared.call.Refusal.TheVariants.{NoMatch, NoRole, Over, Stale, Twice, Ended}

abbrev pub is_refused : Reply → Bool
is_refused Opened = false
is_refused (Due d) = false
is_refused Taken = false
is_refused (Status s) = false
is_refused Aborting = false
is_refused (Refused reason) = true

-- the setup that an `Open` asks for
abbrev pub setup_of : List ℕ → ℕ → ℕ → ℕ → List (List ℕ) → Setup
setup_of id start play strikes players = record { id = id; start = start; play = play; strikes = strikes; players = players }

-- the `Open` that asks for this setup
abbrev pub open_call : ℕ → Setup → Call
open_call game setup = Open setup.id game setup.start setup.play setup.strikes setup.players

-- the answer that a `Miss` reports
abbrev pub missed : Bool → Answer
missed broken = if broken then Broken else Silent

-- the refusal if there is a reason for one, or else this reply
abbrev pub refused_or : Option Refusal → Reply → Reply
refused_or None reply = reply
refused_or (Some reason) reply = Refused reason

-- converts a match's refusal of an answer to the refusal of a call
abbrev pub answer_refused : Option AnswerRefusal → Option Refusal
answer_refused None = None
answer_refused (Some MatchNoRole) = Some NoRole
answer_refused (Some MatchOver) = Some Over
answer_refused (Some (MatchStale n)) = Some (Stale n)
answer_refused (Some MatchTwice) = Some Twice

-- the replies of a match
abbrev pub next_reply : {S M : Type 0} → ℕ → Rules S M → MatchValue M → Reply
next_reply role g m = if nat_lt role g.roles then Due (due g m role) else Refused NoRole

abbrev pub answer_reply : {S M : Type 0} → ℕ → ℕ → Rules S M → MatchValue M → Reply
answer_reply role round g m = refused_or (answer_refused (refusal g m role round)) Taken

abbrev pub query_reply : {S M : Type 0} → Rules S M → MatchValue M → Reply
query_reply g m = Status (status g m)

abbrev pub abort_reply : {S M : Type 0} → Rules S M → MatchValue M → Reply
abort_reply g m = if is_live (stage g m) then Aborting else Refused Ended

-- the reply of the match with this id
abbrev pub reply_of : {G S M : Type 0} → (G → Rules S M) → ManagerValue G M → List ℕ → (Rules S M → MatchValue M → Reply) → Reply
reply_of rules d id f = unwrap_or (option_map (λ m. f (rules m.game) m.value) (match_with_id d id)) (Refused NoMatch)

abbrev pub reply : {G S M : Type 0} → (G → Rules S M) → ManagerValue G M → Call → Reply
reply rules d (Open id game start play strikes players) = refused_or (open_refusal rules d game (setup_of id start play strikes players)) Opened
reply rules d (Next id role) = reply_of rules d id (next_reply role)
reply rules d (Submit id role round text) = reply_of rules d id (answer_reply role round)
reply rules d (Miss id role round broken) = reply_of rules d id (answer_reply role round)
reply rules d (Query id) = reply_of rules d id query_reply
reply rules d (Abort id) = reply_of rules d id abort_reply

abbrev pub changed_match : {G S M : Type 0} → (G → Rules S M) → ManagerValue G M → (Rules S M → MatchValue M → MatchValue M) → DeskMatch M → DeskMatch M
changed_match rules d f m = record m { value = unwrap_or (option_map (λ g. f (rules g) m.value) (game_of d m)) m.value }

-- the manager after the change f of the match with this id
abbrev pub with_change : {G S M : Type 0} → (G → Rules S M) → ManagerValue G M → List ℕ → (Rules S M → MatchValue M → MatchValue M) → ManagerValue G M
with_change rules d id f = record d { matches = map (λ m. if has_id id m then changed_match rules d f m else m) d.matches }

abbrev pub after : {G S M : Type 0} → (G → Rules S M) → ManagerValue G M → Call → ManagerValue G M
after rules d (Open id game start play strikes players) = after_open rules d game (setup_of id start play strikes players)
after rules d (Next id role) = d
after rules d (Submit id role round text) = with_change rules d id (λ g m. after_answer g m role round (Text text))
after rules d (Miss id role round broken) = with_change rules d id (λ g m. after_answer g m role round (missed broken))
after rules d (Query id) = d
after rules d (Abort id) = with_change rules d id after_abort
