-- Replies that are not refusals.
use Rattle.std.proofs.Common.{◌≡◌, ℕ, false, Option, Some, None, List, ap, subst, sym, ◌∙◌}
use Rattle.std.specs.Prelude.{option_map, unwrap_or, IsSomeAnd}
use Rattle.game_core.specs.Play.{Rules}
use Rattle.match_book.specs.MatchValue.{GameMatch}
use Rattle.match_book.specs.Steps.{refusal, MayWantMemory}
use Rattle.match_desk.specs.ManagerValue.{ManagerValue, match_with_id}
use Rattle.match_desk.specs.Memory.{AnswerWantsMemory}
use Rattle.match_desk.specs.Steps.{answer_reply, answer_refused, refused_or, reply_of, is_refused}
use Rattle.desk_calls.specs.declared.call.Reply.TheVariants.{Taken, Refused}
use Rattle.desk_calls.specs.declared.call.Refusal.TheVariants.{NoMatch}

pub accepted-answer : {G S M : Type 0} (rules : G → Rules S M) (d : ManagerValue G M) (id : List ℕ) (role round : ℕ) (m : GameMatch G M) → Some m ≡ match_with_id d id
    → refusal (rules m.game) m.value role round ≡ None → is_refused (reply_of rules d id (answer_reply role round)) ≡ false
accepted-answer {G} {S} {M} rules d id role round m found none =
    ap (λ (o : Option (GameMatch G M)). is_refused (unwrap_or (option_map (λ x. answer_reply role round (rules x.game) x.value) o) (Refused NoMatch))) (sym found)
    ∙ ap (λ o. is_refused (refused_or (answer_refused o) Taken)) none

pub answer_wants_memory : {G S M : Type 0} (rules : G → Rules S M) (d : ManagerValue G M) (id : List ℕ) (role : ℕ) (m : GameMatch G M) → Some m ≡ match_with_id d id
    → MayWantMemory (rules m.game) m.value role → AnswerWantsMemory rules d id role
answer_wants_memory {G} {S} {M} rules d id role m found may = subst (λ (o : Option (GameMatch G M)). IsSomeAnd o (λ x. MayWantMemory (rules x.game) x.value role)) found may
