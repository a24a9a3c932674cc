-- Messages to single players, and the lines that are written about the players.
use Rattle.std.specs.Prelude.{◌≡◌, ◌⊎◌, ℕ, Bool, true, false, List, [], ◌∷◌, ◌++◌, Option, codes, flat_map, map}
use Rattle.std.specs.List.{list_all}
use Rattle.std.specs.Io.KnownBytes.{Appends}
use Rattle.game_core.specs.Bytes.{line_feed}
use Rattle.game_core.specs.Canonical.{canonical}
use Rattle.game_core.specs.Counting.{Counting}
use Rattle.match_messages.specs.InfoReading.{info_reading}
use Rattle.match_messages.specs.MessageValue.{abort, message_form}
use Rattle.match_messages.specs.declared.info.Info.{Info}
use Rattle.match_messages.specs.declared.info.Info.TheVariants.{Available, Ready, Busy, Unknown}
use Rattle.match_plans.specs.declared.addresses.PlayerAddress.{PlayerAddress}
use Rattle.match_plans.specs.declared.shortages.Shortage.{Shortage}
use Rattle.match_plans.specs.declared.shortages.Shortage.TheVariants.{Descriptors, Ports, Memory, Clock, Resolver, Network, Processor}
use Rattle.whole_streams.specs.Streams.{AppendsPart}
use Rattle.player_commands.specs.declared.fault.CommandFault.{CommandFault}
use Rattle.player_commands.specs.declared.fault.CommandFault.TheVariants.{NoAnswer, NotSent, WriteFault}

abbrev pub info_word : Info → List ℕ
info_word Available = codes "available"
info_word Ready = codes "ready"
info_word Busy = codes "busy"
info_word Unknown = codes "unknown"

-- the JSON object for a player with this name
abbrev pub verdict_line : List ℕ → List ℕ → List ℕ
verdict_line name verdict = codes "{\"player\":\"" ++ (name ++ (codes "\",\"verdict\":\"" ++ (verdict ++ codes "\"}\n")))

-- the line for a player's answer to INFO, as JSON or as plain text
abbrev pub info_line : Bool → List ℕ → Info → List ℕ
info_line true name info = verdict_line name (info_word info)
info_line false name info = info_word info ++ line_feed ∷ []

abbrev pub shortage_word : Shortage → List ℕ
shortage_word Descriptors = codes "descriptors"
shortage_word Ports = codes "ports"
shortage_word Memory = codes "memory"
shortage_word Clock = codes "clock"
shortage_word Resolver = codes "resolver"
shortage_word Network = codes "network"
shortage_word Processor = codes "processor"

-- the JSON object for a player that gave no answer or got no message
abbrev pub unanswered_line : List ℕ → CommandFault → List ℕ
unanswered_line name NoAnswer = verdict_line name (codes "no_answer")
unanswered_line name (NotSent shortage) =
    codes "{\"player\":\"" ++ (name ++ (codes "\",\"verdict\":\"not_sent\",\"lacks\":\"" ++ (shortage_word shortage ++ codes "\"}\n")))
unanswered_line name fault = []

-- the output for a player that gave no answer or got no message: one line if the output is JSON, otherwise nothing
abbrev pub TellsUnanswered : {W : Type 0} → (W → Option (List ℕ)) → Bool → List ℕ → CommandFault → Counting W → Counting W → Type 0
TellsUnanswered contents true name NoAnswer writer writer' = Appends (contents writer.stream) (contents writer'.stream) (unanswered_line name NoAnswer)
TellsUnanswered contents true name (NotSent shortage) writer writer' = Appends (contents writer.stream) (contents writer'.stream) (unanswered_line name (NotSent shortage))
TellsUnanswered contents is_json name fault writer writer' = writer' ≡ writer

abbrev pub IsInfoOutput : Bool → List ℕ → List ℕ → Type 0
IsInfoOutput is_json name line = ((answer : List ℕ) × (line ≡ info_line is_json name (info_reading answer)))
    ⊎ ((is_json ≡ true) × ((fault : CommandFault) × (line ≡ unanswered_line name fault)))

-- the output of `info` when it fails
abbrev pub InfoFails : {W : Type 0} → (W → Option (List ℕ)) → Bool → List ℕ → CommandFault → Counting W → Counting W → Type 0
InfoFails contents is_json name fault writer writer' = TellsUnanswered contents is_json name fault writer writer'
    ⊎ ((fault ≡ WriteFault) × ((line : List ℕ) × IsInfoOutput is_json name line × AppendsPart (contents writer.stream) (contents writer'.stream) line))

abbrev pub abort_text : List ℕ → List ℕ
abort_text id = canonical (message_form (abort id))

-- the line that says whether a player answered, as JSON or as plain text
abbrev pub abort_line : Bool → List ℕ → Bool → List ℕ
abort_line false name true = name ++ (codes " aborted" ++ line_feed ∷ [])
abort_line false name false = name ++ (codes " no answer" ++ line_feed ∷ [])
abort_line true name true = verdict_line name (codes "aborted")
abort_line true name false = verdict_line name (codes "no_answer")

abbrev pub aborted_lines : Bool → List PlayerAddress → List ℕ
aborted_lines is_json players = flat_map (λ p. abort_line is_json p.name.now true) players

-- For each of these players, in their order, one line was written that says whether the player answered. `have_answered` says whether
-- all players answered.
pub record TellsAnswers (is_json : Bool) (players : List PlayerAddress) (have_answered : Bool) (old new : Option (List ℕ)) : Type 0 where
  pub told : List (PlayerAddress × Bool)
  pub are_told : map (λ it. it.0) told ≡ players
  pub answered : list_all (λ it. it.1) told ≡ have_answered
  pub written : Appends old new (flat_map (λ it. abort_line is_json it.0.name.now it.1) told)
