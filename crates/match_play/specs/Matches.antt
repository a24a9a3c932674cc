-- The end of a match between players.
use Rattle.std.specs.Prelude.{◌≡◌, ℕ, true, false, List, Option, Some, None, IfSome, slice_get, option_and_then}
use Rattle.game_core.specs.Play.{Rules}
use Rattle.desk_calls.specs.declared.call.Refusal.{Refusal}
use Rattle.match_book.specs.MatchValue.{GameMatch}
use Rattle.match_book.specs.Phase.{is_over}
use Rattle.match_desk.specs.ManagerValue.{ManagerValue, game_match}
use Rattle.match_record.specs.RecordTree.{record_text}
use Rattle.match_record.specs.LawfulRecord.{IsLawfulRecord}
use Rattle.match_workers.specs.declared.refereeing.RefereeFault.{RefereeFault}
use Rattle.match_workers.specs.declared.refereeing.RefereeFault.TheVariants.{Refused as MatchRefused, Unclosed, Full, Memory as RefereeMemory}
use Rattle.match_play.specs.declared.playing.MatchFault.{MatchFault}
use Rattle.match_play.specs.declared.playing.MatchFault.TheVariants.{Memory, Refused, NotEnded, Shortage}

-- this is the first match of the desk, and it is over
pub record HasEndedMatch {G S M : Type 0} (rules : G → Rules S M) (d : ManagerValue G M) (held : GameMatch G M) : Type 0 where
  pub is_first : option_and_then (game_match d) (slice_get d.matches 0) ≡ Some held
  pub over : is_over (rules held.game) held.value ≡ true

-- the desk's first match is over; the text is the record of this match, and a lawful record of the match's game
pub record IsEndedRecord {G S M : Type 0} (rules : G → Rules S M) (d : ManagerValue G M) (text : List ℕ) : Type 0 where
  pub held : GameMatch G M
  pub ended : HasEndedMatch rules d held
  pub is_record : text ≡ record_text (rules held.game) held.value
  pub lawful : IsLawfulRecord (rules held.game) text

-- the desk has no match, or its first one is not over
abbrev pub HasNoEndedMatch : {G S M : Type 0} → (G → Rules S M) → ManagerValue G M → Type 0
HasNoEndedMatch rules d = IfSome (option_and_then (game_match d) (slice_get d.matches 0)) (λ held. is_over (rules held.game) held.value ≡ false)

-- why a match has no record if its referee has this error
abbrev pub referee_fault : RefereeFault → MatchFault
referee_fault (MatchRefused reason) = Refused reason
referee_fault Unclosed = NotEnded
referee_fault Full = NotEnded
referee_fault RefereeMemory = Memory

-- the reason why the desk refused the match; None for any other error
abbrev pub reason_of : MatchFault → Option Refusal
reason_of (Refused reason) = Some reason
reason_of NotEnded = None
reason_of (Shortage shortage) = None
reason_of Memory = None
