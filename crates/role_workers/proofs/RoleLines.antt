-- The lines of a match's desk after its workers have ended.
use Rattle.std.proofs.Common.{◌≡◌, ℕ, ◌+◌, ◌<◌, ◌≤◌, List, [], ◌∷◌, ◌++◌, length, map, Some, option_map, Result, refl, ap, sym, subst, ◌∙◌, arith, rules, get_or}
use Rattle.std.specs.Prelude.{slice_get, Contains, All}
use Rattle.std.proofs.lemmas.List.{length-map}
use Rattle.std.proofs.lemmas.List.Elements.{All-push, Contains-append_left}
use Rattle.std.proofs.lemmas.Option.{slice_get-map, slice_get_within, slice_get-get_or, get_or_from_slice_get}
use Rattle.call_history.specs.declared.port.Port.{Port}
use Rattle.call_history.specs.declared.wire.Wire as Wire
use Rattle.call_history.specs.RingLines.{LineValue, posted_calls, taken_replies, SameLine, SamePorts, IsLineOf, AreEndsOf, IsNewLine}
use Rattle.call_history.specs.RingLaws.{LinesStay, NewLinesAreLines}
use Rattle.desk_calls.specs.declared.call.Call.{Call}
use Rattle.desk_calls.specs.declared.call.Reply.{Reply}
use Rattle.match_messages.specs.BriefValue.{BriefValue}
use Rattle.role_workers.specs.declared.attend_fault.AttendFault.{AttendFault}
use Rattle.match_messages.specs.declared.player.Player as Player
use Rattle.role_workers.specs.declared.seat.Attended.{Attended}
use Rattle.role_workers.specs.declared.seat.Seat.{Seat}
use Rattle.role_workers.specs.RoleLines.{line_of}
use Rattle.role_workers.specs.RoleLines.{AreSeatLines, IsFinishedOf, AreFinishedOf, IsLeftLine, AreLeftLines}
use Rattle.role_workers.specs.Seats.{AreSeatsOf, AreLeftBy}
use Rattle.role_workers.proofs.Places.{map_at}
use Rattle.role_workers.proofs.SeatEnds.{same_ended}
use Rattle.role_workers.proofs.Tellings.{same_telling}

pub place_of : {X : Type 0} (xs : List X) (k : ℕ) → k < length xs → (x : X) × (slice_get xs k ≡ Some x)
place_of [] k within = absurd (omega arith)
place_of (x ∷ xs) k within = (get_or (x ∷ xs) k x, slice_get-get_or (x ∷ xs) k x within)

pub same_at : {X : Type 0} (xs : List X) (k : ℕ) (x y : X) → slice_get xs k ≡ Some x → slice_get xs k ≡ Some y → x ≡ y
same_at xs k x y one other = sym (get_or_from_slice_get xs k x x one) ∙ get_or_from_slice_get xs k y x other

pub contains_at : {X : Type 0} (xs : List X) (k : ℕ) (x : X) → slice_get xs k ≡ Some x → Contains xs x
contains_at xs k x is = (k, slice_get_within xs k x is, get_or_from_slice_get xs k x x is)

module _ {P W : Type 0} (w : Wire.Ghosts W Call Reply) (p : Player.Ghosts P) (wires : List W) (line_in : W → LineValue Call Reply)
    (calls : (x : W) → w.calls x ≡ Some (posted_calls (line_in x)))
    (replies : (x : W) → w.replies x ≡ Some (taken_replies (line_in x)))
    (on_line : (x y : W) → w.same_line x y → SameLine (line_in x) (line_in y))
    (brief : BriefValue) (tries : ℕ) (players : List P)
    (seats : List (Seat P W)) (attended : List (Attended P W))
    (others : List (LineValue Call Reply)) (lines : List (LineValue Call Reply))
    (seated : AreSeatsOf brief players wires seats) (left : AreLeftBy w p tries seats attended)
    (on : map line_in wires ≡ others)
    (finished : AreFinishedOf (map (λ (a : Attended P W). line_in a.wire) attended) lines)
    (ports : List (Port Call Reply)) (new : AreSeatLines ports others) where
  -- a worker's wire, and the end of its line
  record IsKept (k : ℕ) (end : LineValue Call Reply) (a : Attended P W) : Type 0 where
    pub wire : W
    pub is_wire : slice_get wires k ≡ Some wire
    pub is_new : IsNewLine ports (line_of k) (line_in wire)
    pub line : SameLine (line_in wire) (line_in a.wire)
    pub of_line : IsFinishedOf (line_in a.wire) end

  kept_at : (k : ℕ) (end : LineValue Call Reply) (a : Attended P W) → slice_get lines k ≡ Some end → slice_get attended k ≡ Some a → IsKept k end a
  kept_at k end a at is =
      let here = left k a is in
      let sits = seated k here.seat here.is_seat in
      let wire = here.seat.wire in
      let found = finished.each k end at in
      let whose = map_at (λ (x : Attended P W). line_in x.wire) attended k found.0 found.1 in
      let same : a ≡ whose.0 = same_at attended k a whose.0 is whose.1 in
      let line : found.0 ≡ line_in a.wire = sym whose.2 ∙ sym (ap (λ (x : Attended P W). line_in x.wire) same) in
      record {
        wire = wire;
        is_wire = sits.wire_is;
        is_new = new k (line_in wire) (subst (λ ls. slice_get ls k ≡ Some (line_in wire)) on (slice_get-map line_in wires k ∙ ap (λ o. option_map line_in o) sits.wire_is));
        line = on_line wire a.wire here.left_by.line;
        of_line = subst (λ l. IsFinishedOf l end) line found.2;
      }

  -- there is a line for each worker
  line_count : length lines ≡ length attended
  line_count = finished.one_each ∙ length-map attended (λ (a : Attended P W). line_in a.wire)

  worker_at : (k : ℕ) (end : LineValue Call Reply) → slice_get lines k ≡ Some end → (a : Attended P W) × (slice_get attended k ≡ Some a)
  worker_at k end at = place_of attended k (omega (arith, slice_get_within lines k end at, line_count))

  same_line_trans : (a b c : LineValue Call Reply) → SameLine a b → SameLine b c → SameLine a c
  same_line_trans a b c one other = search rules

  pub desk_line : LinesStay Call Reply → NewLinesAreLines Call Reply → (ports' : List (Port Call Reply)) → SamePorts ports ports' → length ports ≡ length others + 1 → (k : ℕ) (end : LineValue Call Reply) → slice_get lines k ≡ Some end → IsLineOf ports' end
  desk_line stay are_lines ports' same count k end at =
      let worker = worker_at k end at in
      let kept = kept_at k end worker.0 at worker.1 in
      let within = slice_get_within wires k kept.wire kept.is_wire in
      let below : line_of k < length ports = omega (arith, within, count, ap length on, length-map wires line_in) in
      stay ports ports' (line_in kept.wire) end same (same_line_trans (line_in kept.wire) (line_in worker.0.wire) end kept.line kept.of_line.same)
      (are_lines ports (line_of k) (line_in kept.wire) below kept.is_new)

  pub desk_ends : LinesStay Call Reply → NewLinesAreLines Call Reply → (ports' : List (Port Call Reply)) → SamePorts ports ports' → length ports ≡ length others + 1 → AreEndsOf ports' lines
  desk_ends stay are_lines ports' same count k end within = desk_line stay are_lines ports' same count k (get_or lines k end) (slice_get-get_or lines k end within)

  left_line : (players_left : List P) → players_left ≡ map (λ (a : Attended P W). a.player) attended → (all : List (LineValue Call Reply)) → ((end : LineValue Call Reply) → Contains lines end → Contains all end) → (role : ℕ) (end : Result ℕ AttendFault)
      → slice_get (map (λ (a : Attended P W). a.end) attended) role ≡ Some end
      → (line : LineValue Call Reply) × Contains all line × IsLeftLine p.handed brief tries players players_left role line end
  left_line players_left come all among role end is =
      let found = map_at (λ (a : Attended P W). a.end) attended role end is in
      let a = found.0 in
      let at = place_of lines role (omega (arith, slice_get_within attended role a found.1, line_count)) in
      let kept = kept_at role at.0 a at.1 found.1 in
      let here = left role a found.1 in
      let seat = here.seat in
      let sits = seated role seat here.is_seat in
      let wire : seat.wire ≡ kept.wire = same_at wires role seat.wire kept.wire sits.wire_is kept.is_wire in
      let before : w.calls seat.wire ≡ Some [] = ap (λ x. w.calls x) wire ∙ calls kept.wire ∙ ap Some kept.is_new.posted in
      let untaken : w.replies seat.wire ≡ Some [] = ap (λ x. w.replies x) wire ∙ replies kept.wire ∙ ap Some kept.is_new.taken in
      let after : w.calls a.wire ≡ Some (posted_calls at.0) = calls a.wire ∙ ap Some (sym kept.of_line.posted) in (
        at.0,
        among at.0 (contains_at lines role at.0 at.1),
        record {
          number = kept.of_line.same.0 ∙ kept.line.0 ∙ kept.is_new.number_is;
          player = seat.player;
          is_player = sits.player_is;
          player_left = a.player;
          is_left = subst (λ ps. slice_get ps role ≡ Some a.player) (sym come)
              (slice_get-map (λ (x : Attended P W). x.player) attended role ∙ ap (λ o. option_map (λ (x : Attended P W). x.player) o) found.1);
          replies = taken_replies (line_in a.wire);
          are_first = kept.of_line.taken;
          ended = same_ended _ _ _ _ _ _ _ _ _ _ _ sits.brief_is sits.role_is (same_telling _ _ _ _ _ _ before untaken refl) (same_telling _ _ _ _ _ _ after (replies a.wire) refl) found.2 here.left_by.ended;
        },
      )

  line_within : (k : ℕ) (end : LineValue Call Reply) → slice_get lines k ≡ Some end → end.number ≤ length attended
  line_within k end at =
      let worker = worker_at k end at in
      let kept = kept_at k end worker.0 at worker.1 in
      let number : end.number ≡ line_of k = kept.of_line.same.0 ∙ kept.line.0 ∙ kept.is_new.number_is in
      omega (arith, number, slice_get_within lines k end at, line_count)

  pub left_lines : (players_left : List P) → players_left ≡ map (λ (a : Attended P W). a.player) attended → (all : List (LineValue Call Reply)) (last : LineValue Call Reply) → all ≡ lines ++ last ∷ [] → last.number ≡ 0 → (ends : List (Result ℕ AttendFault))
      → ends ≡ map (λ (a : Attended P W). a.end) attended → AreLeftLines p.handed brief tries players players_left all ends
  left_lines players_left come all last more zeroth ends is =
      let as_many : length ends ≡ length attended = ap length is ∙ length-map attended (λ (a : Attended P W). a.end) in
      let Within : LineValue Call Reply → Type 0 = λ e. e.number ≤ length ends in
      record {
        one_each = ap length come ∙ length-map attended (λ (a : Attended P W). a.player) ∙ sym as_many;
        each = λ role end at. left_line players_left come all (λ e among. subst (λ es. Contains es e) (sym more) (Contains-append_left lines (last ∷ []) e among)) role end (subst (λ es. slice_get es role ≡ Some end) is at);
        within = subst (All Within) (sym more) (All-push Within lines last
            (λ k e below. omega (arith, line_within k (get_or lines k e) (slice_get-get_or lines k e below), as_many)) (omega (arith, zeroth)));
      }
