-- The messages that a match owes to its roles.
use Rattle.std.specs.Prelude.{◌≡◌, ◌<◌, ℕ, ◌-◌, if◌then◌else◌, List, map, length, Option, IsSome, option_map, slice_get, Result, Ok, Err}
use Rattle.game_core.specs.Play.{Rules}
use Rattle.match_book.specs.MatchValue.{MatchValue}
use Rattle.match_book.specs.Phase.{stage, has_answered, is_over, round}
use Rattle.match_book.specs.declared.turn.Turn.{Turn}
use Rattle.match_book.specs.declared.phase.Stage.{Stage}
use Rattle.match_book.specs.declared.phase.Stage.TheVariants.{Starting, Playing, Stopping, Aborting}
use Rattle.desk_calls.specs.declared.due.Owed.{Owed}
use Rattle.desk_calls.specs.declared.due.Owed.TheVariants.{Start, Play, Stop, Abort}
use Rattle.desk_calls.specs.declared.due.Due.{Due}
use Rattle.desk_calls.specs.declared.due.Due.TheVariants.{Owe, Hold, Over}
use Rattle.match_book.specs.declared.due.OwedFault.{OwedFault}
use Rattle.match_book.specs.declared.due.OwedFault.TheVariants.{NoRole, Memory}

abbrev pub last_move_texts : {S M : Type 0} → Rules S M → List (Turn M) → Option (List (List ℕ))
last_move_texts g turns = option_map (λ t. map g.move_text t.moves) (slice_get turns (length turns - 1))

abbrev pub owed_in : Stage → Option (List (List ℕ)) → Owed
owed_in Starting texts = Start
owed_in Playing texts = Play texts
owed_in Stopping texts = Stop texts
owed_in (Aborting c) texts = Abort

-- the message that the match owes to the role now, or the reason why it owes none
abbrev pub due : {S M : Type 0} → Rules S M → MatchValue M → ℕ → Due
due g m r = if is_over g m then Over else (if has_answered g m r then Hold (round g m) else Owe (round g m) (owed_in (stage g m) (last_move_texts g m.turns)))

-- the message has the texts of a joint move
abbrev pub CarriesMoves : Owed → Type 0
CarriesMoves Start = ⊥
CarriesMoves (Play texts) = IsSome texts
CarriesMoves (Stop texts) = IsSome texts
CarriesMoves Abort = ⊥

abbrev pub OwesMoves : Due → Type 0
OwesMoves (Owe round owed) = CarriesMoves owed
OwesMoves (Hold round) = ⊥
OwesMoves Over = ⊥

-- The message that the match owes to the role, if there is such a role. Only the texts of a joint move need memory.
abbrev pub IsDueAnswer : {S M : Type 0} → Rules S M → MatchValue M → ℕ → Result Due OwedFault → Type 0
IsDueAnswer g m r (Ok d) = (r < g.roles) × (d ≡ due g m r)
IsDueAnswer g m r (Err NoRole) = ¬ (r < g.roles)
IsDueAnswer g m r (Err Memory) = (r < g.roles) × OwesMoves (due g m r)
