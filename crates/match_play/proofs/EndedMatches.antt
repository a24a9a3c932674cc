-- The output of a match that was played to its end.
use Rattle.std.proofs.Common.{◌≡◌, ℕ, Bool, List, subst}
use Rattle.call_history.specs.declared.journal.Entry.{Entry}
use Rattle.desk_calls.specs.declared.call.Call.{Call}
use Rattle.desk_calls.specs.declared.call.Reply.{Reply}
use Rattle.match_play.specs.EndedMatches.{match_text}

pub same-text : (text line : List ℕ) (h k : List (Entry Call Reply)) (has_account : Bool) → h ≡ k → text ≡ match_text line h has_account → text ≡ match_text line k has_account
same-text text line h k has_account same told = subst (λ x. text ≡ match_text line x has_account) same told
