-- The output of a match that was played to its end.
use Rattle.std.specs.Prelude.{◌≡◌, ℕ, Bool, List, [], ◌∷◌, ◌++◌, if◌then◌else◌}
use Rattle.game_core.specs.Bytes.{line_feed}
use Rattle.ground_rules.specs.LoadedGame.{loaded_game}
use Rattle.packed_rules.specs.PackedGames.{tables_of}
use Rattle.packed_rules.specs.declared.packed_game.PackedGame.{PackedGame}
use Rattle.call_history.specs.History.{IsReplay}
use Rattle.call_history.specs.declared.journal.Entry.{Entry}
use Rattle.match_desk.specs.ManagerValue.{ManagerValue, opening}
use Rattle.match_desk.specs.Steps.{reply, after}
use Rattle.desk_calls.specs.declared.call.Call.{Call}
use Rattle.desk_calls.specs.declared.call.Reply.{Reply}
use Rattle.desk_text.specs.Account.{history_text}
use Rattle.match_play.specs.Matches.{IsEndedRecord}

-- a match's record as a line, followed by its history as text if the call log is asked for
abbrev pub match_text : List ℕ → List (Entry Call Reply) → Bool → List ℕ
match_text line history has_account = line ++ line_feed ∷ (if has_account then history_text history else [])

-- The text is the output of the first match of some desk with described games. The match is over, and its record is the first line. This
-- legal history leads from the opening to the desk.
pub record IsEndedMatch (text : List ℕ) : Type 0 where
  pub desk : ManagerValue PackedGame _
  pub line : List ℕ
  pub history : List (Entry Call Reply)
  pub has_account : Bool
  pub ended : IsEndedRecord (λ g. loaded_game (tables_of g)) desk line
  pub replayed : IsReplay (reply (λ g. loaded_game (tables_of g))) (after (λ g. loaded_game (tables_of g))) opening desk history
  pub is_text : text ≡ match_text line history has_account
