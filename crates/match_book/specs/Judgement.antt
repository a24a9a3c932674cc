-- The judgement of an answer in play.
use Rattle.std.specs.Prelude.{◌≡◌, ◌≢◌, ℕ, Bool, true, false, ◌<◌, ◌≤◌, List, [], ◌++◌, length, Option, Some, None, option_map, find, slice_get, bytes_eq, codes, Contains, All, ◌⊎◌}
use Rattle.std.specs.List.{HoldsAt, AllWithin}
use Rattle.game_core.specs.Canonical.{IsFoldedText}
use Rattle.game_core.specs.Play.{Rules}
use Rattle.match_book.specs.AnswerReading.{answer_reading, max_reading}
use Rattle.match_book.specs.Marks.{time_out_text, connection_error_text}
use Rattle.match_book.specs.declared.judgement.Judgement.{Judgement}
use Rattle.match_book.specs.declared.judgement.Substitution.{Substitution}
use Rattle.match_book.specs.declared.judgement.Substitution.TheVariants.{TimeOut, ConnectionError, Unreadable, Illegal, Retired}
use Rattle.desk_calls.specs.declared.answer.Answer.{Answer}
use Rattle.desk_calls.specs.declared.answer.Answer.TheVariants.{Text, Silent, Broken}

-- the error of an answer that does not spell one expression
abbrev pub unreadable_text : List ℕ
unreadable_text = codes "IL ?"

-- the prefix of the error of an answer that is not a legal move
abbrev pub illegal_prefix : List ℕ
illegal_prefix = codes "IL "

-- the error of a retired role
abbrev pub retired_text : List ℕ
retired_text = codes "RT"

-- the error that a match records with the first legal move
abbrev pub error_text : Substitution → List ℕ
error_text TimeOut = time_out_text
error_text ConnectionError = connection_error_text
error_text Unreadable = unreadable_text
error_text (Illegal x) = illegal_prefix ++ x
error_text Retired = retired_text

-- the first of these moves with the error for this reason, or None if there are no moves
abbrev pub substitute : {M : Type 0} → List M → Substitution → Option (Judgement M)
substitute moves why = option_map (λ m. record { taken = m; error = error_text why }) (slice_get moves 0)

-- the move with this text
abbrev pub move_named : {S M : Type 0} → Rules S M → List M → List ℕ → Option M
move_named g moves x = find (λ m. bytes_eq (g.move_text m) x) moves

abbrev pub NamesNone : {S M : Type 0} → Rules S M → List M → List ℕ → Type 0
NamesNone g moves x = All (λ m. g.move_text m ≢ x) moves

-- the index of the first of these moves with this text
abbrev pub IsPlaceOf : {S M : Type 0} → Rules S M → List M → List ℕ → Option ℕ → Type 0
IsPlaceOf g moves x None = NamesNone g moves x
IsPlaceOf g moves x (Some p) = (p < length moves) × HoldsAt (λ m. g.move_text m ≡ x) moves p × AllWithin (λ m. g.move_text m ≢ x) moves 0 p

-- takes the move that the answer names, or, if it names none, the first of these moves with the error that the answer x is illegal
abbrev pub taken_or_substituted : {M : Type 0} → List M → List ℕ → Option M → Option (Judgement M)
taken_or_substituted moves x (Some m) = Some (record { taken = m; error = [] })
taken_or_substituted moves x None = substitute moves (Illegal x)

abbrev pub judged_reading : {S M : Type 0} → Rules S M → List M → Option (List ℕ) → Option (Judgement M)
judged_reading g moves (Some x) = taken_or_substituted moves x (move_named g moves x)
judged_reading g moves None = substitute moves Unreadable

abbrev pub judged_answer : {S M : Type 0} → Rules S M → List M → Answer → Option (Judgement M)
judged_answer g moves (Text t) = judged_reading g moves (answer_reading t)
judged_answer g moves Silent = substitute moves TimeOut
judged_answer g moves Broken = substitute moves ConnectionError

-- the judgement of an answer of the role r in the state s, or None if the role has no legal move
unfoldable pub judgement : {S M : Type 0} → Rules S M → S → ℕ → Answer → Option (Judgement M)
judgement g s r answer = judged_answer g (g.legal s r) answer

-- given these legal moves, a move may have been replaced for this reason
abbrev pub MayStand : {S M : Type 0} → Rules S M → List M → Substitution → Type 0
MayStand g moves TimeOut = Unit {0}
MayStand g moves ConnectionError = Unit {0}
MayStand g moves Unreadable = Unit {0}
MayStand g moves (Illegal x) = IsFoldedText x × (length x ≤ max_reading) × NamesNone g moves x
MayStand g moves Retired = ⊥

-- an error that an answer can cause, recorded with the first of these moves
abbrev pub IsSubstitution : {S M : Type 0} → Rules S M → List M → List ℕ → Type 0
IsSubstitution g moves e = (why : Substitution) × (e ≡ error_text why) × MayStand g moves why

-- a legal move without an error, or the first legal move with an error
abbrev pub IsJudged : {S M : Type 0} → Rules S M → List M → M → List ℕ → Type 0
IsJudged g moves m e = Contains moves m × ((e ≡ []) ⊎ ((slice_get moves 0 ≡ Some m) × IsSubstitution g moves e))

-- a role's part of a turn: the first legal move with the error `RT` if the role is retired, or else the judgement of an answer
abbrev pub IsPart : {S M : Type 0} → Rules S M → Bool → List M → M → List ℕ → Type 0
IsPart g true moves m e = (slice_get moves 0 ≡ Some m) × (e ≡ retired_text)
IsPart g false moves m e = IsJudged g moves m e
