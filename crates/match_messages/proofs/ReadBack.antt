-- Reading the texts of messages gives the messages back.
use Rattle.std.proofs.Common.{◌≡◌, ℕ, List, [], ◌∷◌, Option, Some, None, Ok, refl, ap, ◌∙◌, lit<, codes}
use Rattle.game_core.specs.Expression.{Expressions, none, more, IsAtom, HasAtoms}
use Rattle.game_core.specs.Canonical.{canonical, members, later}
use Rattle.game_core.specs.Laws.{NumbersAreAtoms, NumbersArePlain}
use Rattle.kif_text.specs.Laws.{CanonicalReadsBack}
use Rattle.kif_text.specs.Reading.{reading}
use Rattle.desk_calls.specs.Laws.{NamesAreAtoms}
use Rattle.desk_calls.specs.declared.due.Owed.{Owed}
use Rattle.desk_calls.specs.declared.due.Owed.TheVariants.{Start, Play, Stop, Abort}
use Rattle.match_messages.specs.BriefValue.{BriefValue}
use Rattle.match_messages.specs.MessageValue.{MessageValue, info, start, play, stop, abort, message_form, moves_form, folded_message}
use Rattle.match_messages.specs.MessageText.{as_printed, message_text}
use Rattle.match_messages.specs.MessageReading.{message_in, message_reading, in_expression}
use Rattle.match_messages.specs.MessageLaws.{AreMoves, IsLawfulMessage, MessagesReadBack, HaveTexts, Says, OwedMessagesReadBack}
use Rattle.match_messages.proofs.Clocks.{clock_is_atom, clock_of-decimal}

info_word : IsAtom (codes "INFO")
info_word = (lit< tt, (refl, (refl, (refl, (refl, tt)))))

start_word : IsAtom (codes "START")
start_word = (lit< tt, (refl, (refl, (refl, (refl, (refl, tt))))))

play_word : IsAtom (codes "PLAY")
play_word = (lit< tt, (refl, (refl, (refl, (refl, tt)))))

stop_word : IsAtom (codes "STOP")
stop_word = (lit< tt, (refl, (refl, (refl, (refl, tt)))))

abort_word : IsAtom (codes "ABORT")
abort_word = (lit< tt, (refl, (refl, (refl, (refl, (refl, tt))))))

nil_word : IsAtom (codes "NIL")
nil_word = (lit< tt, (refl, (refl, (refl, tt))))

moves_have_atoms : (moves : Option Expressions) → AreMoves moves → HasAtoms (moves_form moves)
moves_have_atoms None are = nil_word
moves_have_atoms (Some none) are = tt
moves_have_atoms (Some (more x xs)) are = are

form_has_atoms : NamesAreAtoms → NumbersAreAtoms → (m : MessageValue) → IsLawfulMessage m → HasAtoms (message_form m)
form_has_atoms names numbers info is = (info_word, tt)
form_has_atoms names numbers (start id role rules s p) is = (start_word, (names id is.0, (is.1, (is.2, (clock_is_atom numbers s is.3, (clock_is_atom numbers p is.4, tt))))))
form_has_atoms names numbers (play id moves) is = (play_word, (names id is.0, (moves_have_atoms moves is.1, tt)))
form_has_atoms names numbers (stop id moves) is = (stop_word, (names id is.0, (moves_have_atoms moves is.1, tt)))
form_has_atoms names numbers (abort id) is = (abort_word, (names id is, tt))

form_is_read : NumbersArePlain → (m : MessageValue) → IsLawfulMessage m → message_in (message_form m) ≡ Ok (folded_message m)
form_is_read plain info is = refl
form_is_read plain (start id role rules s p) is = rw (is.0, clock_of-decimal plain s is.3, clock_of-decimal plain p is.4) refl
form_is_read plain (play id None) is = rw (is.0) refl
form_is_read plain (play id (Some none)) is = absurd is.1
form_is_read plain (play id (Some (more x xs))) is = rw (is.0) refl
form_is_read plain (stop id None) is = rw (is.0) refl
form_is_read plain (stop id (Some none)) is = absurd is.1
form_is_read plain (stop id (Some (more x xs))) is = rw (is.0) refl
form_is_read plain (abort id) is = rw is refl

pub messages_read_back : NamesAreAtoms → NumbersAreAtoms → NumbersArePlain → CanonicalReadsBack → MessagesReadBack
messages_read_back names numbers plain reads_back m is =
    let found : reading (canonical (message_form m)) ≡ Some (message_form m) = reads_back (message_form m) (form_has_atoms names numbers m is.lawful, is.shallow) is.short in
    ap in_expression found ∙ form_is_read plain m is.lawful

later_printed : (xs : Expressions) (texts : List (List ℕ)) → HaveTexts xs texts → later (as_printed texts) ≡ later xs
later_printed none [] have = refl
later_printed none (t ∷ ts) have = absurd have
later_printed (more x xs) [] have = absurd have
later_printed (more x xs) (t ∷ ts) have = rw (have.0, later_printed xs ts have.1) refl

members_printed : (xs : Expressions) (texts : List (List ℕ)) → HaveTexts xs texts → members (as_printed texts) ≡ members xs
members_printed none [] have = refl
members_printed none (t ∷ ts) have = absurd have
members_printed (more x xs) [] have = absurd have
members_printed (more x xs) (t ∷ ts) have = rw (have.0, later_printed xs ts have.1) refl

text_is : (b : BriefValue) (role : ℕ) (owed : Owed) (m : MessageValue) → Says b role owed m → message_text b role owed ≡ canonical (message_form m)
text_is b role Start (start id name rules s p) says = rw (says.0, says.1, says.2, says.3, says.4) refl
text_is b role (Play None) (play id None) says = rw (says.0) refl
text_is b role (Play (Some texts)) (play id (Some moves)) says = rw (says.0, members_printed moves texts says.1) refl
text_is b role (Stop None) (stop id None) says = rw (says.0) refl
text_is b role (Stop (Some texts)) (stop id (Some moves)) says = rw (says.0, members_printed moves texts says.1) refl
text_is b role Abort (abort id) says = rw says refl
text_is b role (Play None) (play id (Some moves)) says = absurd says.1
text_is b role (Play (Some texts)) (play id None) says = absurd says.1
text_is b role (Stop None) (stop id (Some moves)) says = absurd says.1
text_is b role (Stop (Some texts)) (stop id None) says = absurd says.1
text_is b role owed m says = absurd says

pub owed_messages_read_back : MessagesReadBack → OwedMessagesReadBack
owed_messages_read_back read_back b role owed m says is = ap message_reading (text_is b role owed m says) ∙ read_back m is
