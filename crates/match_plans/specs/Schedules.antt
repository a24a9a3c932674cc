-- The matches of a schedule.
use Rattle.std.specs.Prelude.{◌≡◌, ◌≢◌, ◌==◌, ◌||◌, ◌⊎◌, ◌+◌, ◌<◌, ◌≤◌, ℕ, Bool, true, false, not, List, [], ◌∷◌, Option, Some, None, if◌then◌else◌, All, get_or, is_none, length, map, filter, take, vec_len}
use Rattle.std.specs.List.{AllPairs, AllZip, list_any, slice_split}
use Rattle.std.specs.Str.{bytes_eq, is_utf8}
use Rattle.std.specs.Str.Lines.{strip_carriage_return}
use Rattle.game_core.specs.Bytes.{space, line_feed}
use Rattle.game_core.specs.Numerals.{plain_number}
use Rattle.match_plans.specs.Addresses.{IsAddress, is_player}
use Rattle.match_plans.specs.declared.plan.MatchPlan.{MatchPlan}
use Rattle.match_plans.specs.declared.schedule_fault.LineFault.{LineFault}
use Rattle.match_plans.specs.declared.schedule_fault.LineFault.TheVariants.{TooFewWords, NoId, NoClock, NoPlayer, WrongPlayers, IdTwice, TooMany}
use Rattle.match_plans.specs.declared.schedule_fault.ScheduleFault.{ScheduleFault}
use Rattle.match_plans.specs.declared.schedule_fault.ScheduleFault.TheVariants.{BadLine, Memory}

-- the parts of a text between its line feeds
abbrev pub cut_lines : List ℕ → List (List ℕ)
cut_lines text = slice_split (λ b. b == line_feed) text

abbrev pub is_blank : ℕ → Bool
is_blank b = (b == space) || (b == 9)

-- the words of a text line: the parts between blanks that are not empty
abbrev pub line_words : List ℕ → List (List ℕ)
line_words line = filter (λ word. not (length word == 0)) (slice_split is_blank line)

abbrev pub is_comment : List ℕ → Bool
is_comment [] = false
is_comment (b ∷ more) = b == 35

-- a text line is ignored if it has no words or its first word begins with #
abbrev pub is_blank_or_comment : List (List ℕ) → Bool
is_blank_or_comment [] = true
is_blank_or_comment (word ∷ words) = is_comment word

-- the words of each text line with a match, in order
abbrev pub match_words : List (List ℕ) → List (List (List ℕ))
match_words lines = filter (λ words. not (is_blank_or_comment words)) (map (λ line. line_words (strip_carriage_return line)) lines)

abbrev pub match_lines : List ℕ → List (List (List ℕ))
match_lines text = match_words (cut_lines text)

-- the number of seconds in a word: decimal digits without leading zeros
abbrev pub clock_of : List ℕ → Option ℕ
clock_of word = plain_number word 4294967295

-- the error of the first of these words that is not a player's address; `number` is the position of the list's first word in the text
-- line
abbrev pub player_fault : ℕ → List (List ℕ) → Option LineFault
player_fault number [] = None
player_fault number (word ∷ words) = if is_player word then player_fault (number + 1) words else Some (NoPlayer number)

-- the first error of the words of a text line, from left to right; None if they are ID START PLAY NAME@HOST:PORT ..
abbrev pub word_fault : List (List ℕ) → Option LineFault
word_fault (id ∷ start ∷ play ∷ player ∷ players) =
    if not (is_utf8 id) then Some NoId
    else (if is_none (clock_of start) then Some (NoClock 2)
    else (if is_none (clock_of play) then Some (NoClock 3)
    else player_fault 4 (player ∷ players)))
word_fault words = Some TooFewWords

-- the plan contains the values in these words: the id, the seconds for START, the seconds for all other messages, and the players
abbrev pub IsPlanned : ℕ → List (List ℕ) → MatchPlan → Type 0
IsPlanned strikes (id ∷ start ∷ play ∷ players) plan =
    (plan.id.now ≡ id) × (clock_of start ≡ Some plan.start) × (clock_of play ≡ Some plan.play) × (plan.strikes ≡ strikes)
    × AllZip IsAddress players plan.players.items
IsPlanned strikes words plan = ⊥

-- the error of a match with this id and this number of players, after matches with these ids
abbrev pub misplaced : ℕ → List (List ℕ) → List ℕ → ℕ → Option LineFault
misplaced roles ids id players = if players == roles then (if list_any (bytes_eq id) ids then Some IdTwice else None) else Some WrongPlayers

-- no two of these matches have the same id
abbrev pub HaveIdsOnce : List MatchPlan → Type 0
HaveIdsOnce plans = AllPairs (λ before plan. plan.id.now ≢ before.id.now) plans

-- These are the matches of the text lines, in order: not too many, each with a player for each role, and with different ids.
pub record AreMatchesOf (roles strikes : ℕ) (lines : List (List ℕ)) (plans : List MatchPlan) : Type 0 where
  pub planned : AllZip (IsPlanned strikes) (match_words lines) plans
  pub within : length plans ≤ 65536
  pub roles_each : All (λ plan. vec_len plan.players ≡ roles) plans
  pub once : HaveIdsOnce plans

-- the error of a match after these matches
abbrev pub HasFault : ℕ → List MatchPlan → MatchPlan → LineFault → Type 0
HasFault roles before plan fault =
    (misplaced roles (map (λ it. it.id.now) before) plan.id.now (vec_len plan.players) ≡ Some fault)
    ⊎ ((misplaced roles (map (λ it. it.id.now) before) plan.id.now (vec_len plan.players) ≡ None) × (fault ≡ TooMany) × (length before ≡ 65536))

-- the error of a text line with these words after these matches: the error in its words, or else the error of its match
abbrev pub IsFaultOf : ℕ → ℕ → List MatchPlan → List (List ℕ) → LineFault → Type 0
IsFaultOf roles strikes before words fault =
    (is_blank_or_comment words ≡ false)
    × ((word_fault words ≡ Some fault)
    ⊎ ((plan : MatchPlan) × (word_fault words ≡ None) × IsPlanned strikes words plan × HasFault roles before plan fault))

-- The text line with this index is the first bad one, with this error. Each text line before it contains a match or is ignored.
pub record IsFirstBad (roles strikes : ℕ) (lines : List (List ℕ)) (at : ℕ) (fault : LineFault) : Type 0 where
  pub within : at < length lines
  pub before : List MatchPlan
  pub are_good : AreMatchesOf roles strikes (take at lines) before
  pub is_bad : IsFaultOf roles strikes before (line_words (strip_carriage_return (get_or lines at []))) fault

-- the number of the first bad text line, counted from 1, and its error
abbrev pub IsBadLine : ℕ → ℕ → List (List ℕ) → ScheduleFault → Type 0
IsBadLine roles strikes lines (BadLine number fault) = (at : ℕ) × (number ≡ at + 1) × IsFirstBad roles strikes lines at fault
IsBadLine roles strikes lines Memory = ⊥
