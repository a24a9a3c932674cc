-- The output of a script as a function of its input. The calls are made on an object; two functions give the object's reply to a call and
-- its value after the call.
use Rattle.std.specs.Prelude.{ℕ, ◌+◌, List, [], ◌∷◌, ◌++◌, Option, Some, None, is_none, option_map, unwrap_or, codes, if◌then◌else◌}
use Rattle.std.specs.Str.Lines.{lines}
use Rattle.game_core.specs.Bytes.{line_feed}
use Rattle.game_core.specs.Play.{Rules}
use Rattle.match_desk.specs.ManagerValue.{ManagerValue, DeskMatch, game_match}
use Rattle.match_desk.specs.Steps.{reply, after}
use Rattle.desk_calls.specs.declared.call.Call.{Call}
use Rattle.match_record.specs.RecordTree.{record_text}
use Rattle.desk_calls.specs.declared.call.Reply.{Reply}
use Rattle.desk_text.specs.ScriptLines.{call_of, reply_text}
use Rattle.desk_text.specs.Account.{no_matches}

-- the answer to a line; no call is made for a bad line
abbrev pub line_answer : {S : Type 0} → (S → Call → Reply) → S → Option Call → List ℕ
line_answer reply s None = codes "badline"
line_answer reply s (Some call) = reply_text (reply s call)

abbrev pub after_line : {S : Type 0} → (S → Call → S) → S → Option Call → S
after_line after s None = s
after_line after s (Some call) = after s call

-- the answers to these lines, each with a line feed; the first call is made on the object s
abbrev pub answer_lines : {S : Type 0} → (S → Call → Reply) → (S → Call → S) → S → List (List ℕ) → List ℕ
answer_lines reply after s [] = []
answer_lines reply after s (line ∷ more) = line_answer reply s (call_of line) ++ line_feed ∷ answer_lines reply after (after_line after s (call_of line)) more

abbrev pub after_lines : {S : Type 0} → (S → Call → S) → S → List (List ℕ) → S
after_lines after s [] = s
after_lines after s (line ∷ more) = after_lines after (after_line after s (call_of line)) more

abbrev pub bad_lines : List (List ℕ) → ℕ
bad_lines [] = 0
bad_lines (line ∷ more) = (if is_none (call_of line) then 1 else 0) + bad_lines more

abbrev pub record_line : {G S M : Type 0} → (G → Rules S M) → ManagerValue G M → DeskMatch M → List ℕ
record_line rules d m = unwrap_or (option_map (λ x. record_text (rules x.game) x.value ++ line_feed ∷ []) (game_match d m)) []

abbrev pub records : {G S M : Type 0} → (G → Rules S M) → ManagerValue G M → List (DeskMatch M) → List ℕ
records rules d [] = []
records rules d (m ∷ more) = record_line rules d m ++ records rules d more

abbrev pub desk_after : {G S M : Type 0} → (G → Rules S M) → List G → List ℕ → ManagerValue G M
desk_after rules games input = after_lines (after rules) (no_matches games) (lines input)

-- the output for an input on a new desk with these games: the answers to its lines, then the records of the matches
abbrev pub script_output : {G S M : Type 0} → (G → Rules S M) → List G → List ℕ → List ℕ
script_output rules games input = answer_lines (reply rules) (after rules) (no_matches games) (lines input) ++ records rules (desk_after rules games input) (desk_after rules games input).matches
