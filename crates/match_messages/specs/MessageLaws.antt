-- Laws about reading the text of a message.
use Rattle.std.specs.Prelude.{◌≡◌, ℕ, ◌≤◌, true, List, [], ◌∷◌, length, Option, Some, None, slice_index_or, Ok}
use Rattle.game_core.specs.Expression.{Expressions, none, more, HasAtoms, AllHaveAtoms, depth, max_depth}
use Rattle.game_core.specs.Canonical.{canonical}
use Rattle.kif_text.specs.Spelling.{max_length}
use Rattle.desk_calls.specs.Names.{is_name, is_clock}
use Rattle.desk_calls.specs.declared.due.Owed.{Owed}
use Rattle.desk_calls.specs.declared.due.Owed.TheVariants.{Start, Play, Stop, Abort}
use Rattle.match_messages.specs.RulesText.{rules_text}
use Rattle.match_messages.specs.BriefValue.{BriefValue}
use Rattle.match_messages.specs.MessageValue.{MessageValue, info, start, play, stop, abort, message_form, folded_message}
use Rattle.match_messages.specs.MessageText.{message_text}
use Rattle.match_messages.specs.MessageReading.{message_reading}

-- None, or at least one move, and a text can spell all atoms of the moves
abbrev pub AreMoves : Option Expressions → Type 0
AreMoves None = Unit {0}
AreMoves (Some none) = ⊥
AreMoves (Some (more x xs)) = AllHaveAtoms (more x xs)

-- a message with a lawful id, lawful clocks, and atoms that a text can spell
abbrev pub IsLawfulMessage : MessageValue → Type 0
IsLawfulMessage info = Unit {0}
IsLawfulMessage (start id role rules s p) = (is_name id ≡ true) × HasAtoms role × AllHaveAtoms rules × (is_clock s ≡ true) × (is_clock p ≡ true)
IsLawfulMessage (play id moves) = (is_name id ≡ true) × AreMoves moves
IsLawfulMessage (stop id moves) = (is_name id ≡ true) × AreMoves moves
IsLawfulMessage (abort id) = is_name id ≡ true

-- a lawful message with a text within the limits of length and depth
pub record IsSayable (m : MessageValue) : Type 0 where
  pub lawful : IsLawfulMessage m
  pub short : length (canonical (message_form m)) ≤ max_length
  pub shallow : depth (message_form m) ≤ max_depth

abbrev pub MessagesReadBack : Type 0
MessagesReadBack = (m : MessageValue) → IsSayable m → message_reading (canonical (message_form m)) ≡ Ok (folded_message m)

abbrev pub HaveTexts : Expressions → List (List ℕ) → Type 0
HaveTexts none [] = Unit {0}
HaveTexts none (t ∷ ts) = ⊥
HaveTexts (more x xs) [] = ⊥
HaveTexts (more x xs) (t ∷ ts) = (t ≡ canonical x) × HaveTexts xs ts

abbrev pub MovesHaveTexts : Option Expressions → Option (List (List ℕ)) → Type 0
MovesHaveTexts None None = Unit {0}
MovesHaveTexts None (Some texts) = ⊥
MovesHaveTexts (Some moves) None = ⊥
MovesHaveTexts (Some moves) (Some texts) = HaveTexts moves texts

-- The owed message says this to the role. The texts of its expressions are the role's name, the rules and the moves of the match.
abbrev pub Says : BriefValue → ℕ → Owed → MessageValue → Type 0
Says b role Start (start id name rules s p) = (id ≡ b.id) × (slice_index_or b.roles role [] ≡ canonical name) × (b.rules ≡ rules_text rules) × (s ≡ b.start) × (p ≡ b.play)
Says b role (Play texts) (play id moves) = (id ≡ b.id) × MovesHaveTexts moves texts
Says b role (Stop texts) (stop id moves) = (id ≡ b.id) × MovesHaveTexts moves texts
Says b role Abort (abort id) = id ≡ b.id
Says b role owed m = ⊥

abbrev pub OwedMessagesReadBack : Type 0
OwedMessagesReadBack = (b : BriefValue) (role : ℕ) (owed : Owed) (m : MessageValue) → Says b role owed m → IsSayable m → message_reading (message_text b role owed) ≡ Ok (folded_message m)
