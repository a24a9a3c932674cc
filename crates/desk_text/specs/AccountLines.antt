-- The form of the lines of a call log.
use Rattle.std.specs.Prelude.{◌==◌, ◌&&◌, ◌||◌, ℕ, ◌≤◌, ◌-◌, Bool, false, List, [], ◌∷◌, Option, Some, None, bytes_eq, codes, length, slice_get}
use Rattle.game_core.specs.Bytes.{right_parenthesis, tab}
use Rattle.game_core.specs.Numerals.{are_digits}
use Rattle.desk_calls.specs.Names.{is_digit, is_letter}
use Rattle.desk_calls.specs.declared.call.Refusal.TheVariants.{Stale}
use Rattle.desk_calls.specs.declared.call.Reply.{Reply}
use Rattle.desk_calls.specs.declared.call.Reply.TheVariants.{Due as IsDue, Refused, Status}
use Rattle.desk_calls.specs.declared.due.Due.TheVariants.{Hold}
use Rattle.desk_text.specs.Words.{max_in_64_bits, pieces, words}

abbrev pub is_call_word : List ℕ → Bool
is_call_word word =
    bytes_eq word (codes "open") || bytes_eq word (codes "strict") || bytes_eq word (codes "next") || bytes_eq word (codes "submit")
    || bytes_eq word (codes "miss") || bytes_eq word (codes "query") || bytes_eq word (codes "abort")

abbrev pub begins_as_call : List (List ℕ) → Bool
begins_as_call [] = false
begins_as_call (word ∷ more) = is_call_word word

-- Each reply (`reply_text`) ends with a letter, a digit or a closing parenthesis, but a record ends with a brace or white space.
abbrev pub ends_as_reply : Option ℕ → Bool
ends_as_reply None = false
ends_as_reply (Some byte) = is_letter byte || is_digit byte || byte == right_parenthesis

-- the fields of a line: the number of a line of the desk in decimal digits, a call, and a reply
abbrev pub are_account_fields : List (List ℕ) → Bool
are_account_fields (number ∷ (call ∷ (reply ∷ []))) = are_digits number && begins_as_call (words call) && ends_as_reply (slice_get reply (length reply - 1))
are_account_fields _ = false

-- The fields are separated by tabs. A line that ends with a record does not have this form.
abbrev pub is_account_line : List ℕ → Bool
is_account_line line = are_account_fields (pieces tab line)

-- the number at the end of a reply fits into 64 bits
abbrev pub HasReplyNumbers : Reply → Type 0
HasReplyNumbers (IsDue (Hold round)) = round ≤ max_in_64_bits
HasReplyNumbers (Status s) = s.substitutions ≤ max_in_64_bits
HasReplyNumbers (Refused (Stale round)) = round ≤ max_in_64_bits
HasReplyNumbers reply = Unit {0}
