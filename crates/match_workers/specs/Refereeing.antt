-- What holds for a refereed match.
use Rattle.std.specs.Prelude.{◌≡◌, ℕ, ◌+◌, ◌<◌, List, [], ◌∷◌, length, All, Option, Result}
use Rattle.game_core.specs.Play.{Rules}
use Rattle.call_history.specs.declared.journal.Entry.{Entry}
use Rattle.desk_calls.specs.declared.setup.Setup.{Setup}
use Rattle.match_desk.specs.Headline.{HasHeadline}
use Rattle.match_desk.specs.ManagerValue.{ManagerValue, opening}
use Rattle.desk_calls.specs.declared.call.Call.{Call}
use Rattle.desk_calls.specs.declared.call.Reply.{Reply}
use Rattle.match_messages.specs.BriefValue.{BriefValue}
use Rattle.role_workers.specs.declared.attend_fault.AttendFault.{AttendFault}
use Rattle.match_workers.specs.Briefs.{IsBriefOf}
use Rattle.match_workers.specs.Ends.{AreEndsOf}
use Rattle.match_messages.specs.Handing.{Handed}
use Rattle.match_workers.specs.LineParts.{OpensMatch, AreRoleLines, AreCounts}
use Rattle.match_workers.specs.OneMatch.{HasOneMatch}

-- A match of this game with this setup was played by these players, who got these rules, with at most this many tries for each role. `left`
-- are the players afterwards. The desk was closed with this manager and this history; its lines made these numbers of calls.
pub record IsRefereed {G S M P : Type 0} (rules : G → Rules S M) (handed : P → Option (List Handed)) (game : G) (setup : Setup) (printed : List ℕ) (tries : ℕ) (players left : List P)
    (d : ManagerValue G M) (history : List (Entry Call Reply)) (made_by_line : List ℕ) (ends : List (Result ℕ AttendFault)) : Type 0 where
  pub headline : HasHeadline rules ((rules game).roles + 1) d history made_by_line
  -- the history starts from the given game without matches; its first line opened the match with the given setup
  pub begins : opening d ≡ record { games = game ∷ []; matches = [] }
  pub first_line : OpensMatch setup history
  -- each other line belongs to a role, and made only calls of the role
  pub lines : All (λ e. e.line < (rules game).roles + 1) history
  pub role_lines : AreRoleLines setup.id (rules game).roles history
  pub counts : AreCounts history made_by_line
  -- the manager has exactly one match, of the given game and with the given setup
  pub one_match : HasOneMatch game setup d
  pub one_end_each : length ends ≡ (rules game).roles
  -- each player got the data of this match, and a worker attended the role with its index, over the role's line
  pub told : BriefValue
  pub is_told : IsBriefOf (rules game) setup printed told
  pub attended : AreEndsOf handed told tries players left history ends
