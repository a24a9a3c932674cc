-- Rounds with an answer of every role.
use Rattle.std.specs.Prelude.{◌≡◌, ◌⊎◌, ℕ, zero, suc}
use Rattle.game_core.specs.Play.{Rules}
use Rattle.match_book.specs.MatchValue.{MatchValue}
use Rattle.match_book.specs.Phase.{round}
use Rattle.match_book.specs.Due.{due}
use Rattle.match_book.specs.Steps.{after_answer}
use Rattle.desk_calls.specs.declared.answer.Answer.{Answer}
use Rattle.desk_calls.specs.declared.due.Due.{Due}
use Rattle.desk_calls.specs.declared.due.Due.TheVariants.{Owe, Hold, Over}

-- the match after some answer of the role for the round n
abbrev pub IsAfterAnswer : {S M : Type 0} → Rules S M → ℕ → MatchValue M → ℕ → MatchValue M → Type 0
IsAfterAnswer g n m role after = (answer : Answer) × (after ≡ after_answer g m role n answer)

-- the match after the role has answered the message that the match owes to it; the same match if there is no such message
abbrev pub IsAfterDue : {S M : Type 0} → Rules S M → MatchValue M → ℕ → Due → MatchValue M → Type 0
IsAfterDue g m role (Owe n owed) after = IsAfterAnswer g n m role after
IsAfterDue g m role (Hold n) after = after ≡ m
IsAfterDue g m role Over after = after ≡ m

-- All roles below this number have answered in turn. Each one has answered for the round n, or has answered the message that the match owed
-- to it then, if any.
abbrev pub HaveAnswered : {S M : Type 0} → Rules S M → ℕ → MatchValue M → ℕ → MatchValue M → Type 0
HaveAnswered g n m zero after = after ≡ m
HaveAnswered {S} {M} g n m (suc role) after = (before : MatchValue M) × HaveAnswered g n m role before × (IsAfterAnswer g n before role after ⊎ IsAfterDue g before role (due g before role) after)

-- the match after this many rounds; every role has answered in each round
abbrev pub AreRounds : {S M : Type 0} → Rules S M → MatchValue M → ℕ → MatchValue M → Type 0
AreRounds g m zero after = after ≡ m
AreRounds {S} {M} g m (suc rounds) after = (before : MatchValue M) × AreRounds g m rounds before × HaveAnswered g (round g before) before g.roles after
