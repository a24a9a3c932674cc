use Rattle.std.proofs.Common.{◌≡◌, ℕ, ◌<◌, List, All, length, get_or, true, arith, sym, ◌∙◌, ap, subst}
use Rattle.call_history.specs.declared.port.Port.{Port}
use Rattle.call_history.specs.Lines.{has_number, HasAll}
use Rattle.call_history.specs.Parts.{part}
use Rattle.call_history.specs.RingLines.{LineValue, SamePorts, AreEndsOf}
use Rattle.call_history.specs.RingClosing.{end_numbers}
use Rattle.call_history.proofs.PartTotals.{total, all_below}
use Rattle.call_history.proofs.ReturnedEnds.{numbers_of_same, has_end, served_of_same, prefix_of_same, own_calls, own_replies, some_of}
use Rattle.call_history.proofs.DeskLines.{same_ports_refl, same_ends_refl}
use Rattle.call_history.proofs.ring_desk.RingDesk.close.Goals as goal

pub lowest_unserved-requires-clause-lines : goal.lowest_unserved-requires-clause-lines
lowest_unserved-requires-clause-lines g c =
    let P : List (Port g.row.O-Call.Denot g.row.O-Reply.Denot) → Type 0 = λ ports. AreEndsOf ports c.args.ends.items in
    subst P (sym (ap (λ d. d.ports) c.desk.view_is)) c.requires.lines

pub returns-in-Some-clause-back : goal.returns-in-Some-clause-back
returns-in-Some-clause-back g c =
    let inside : List (Port g.row.O-Call.Denot g.row.O-Reply.Denot) = c.desk.inside.ports.items in
    let ports = ap (λ d. d.ports) c.desk.view_is in
    let P : List (Port g.row.O-Call.Denot g.row.O-Reply.Denot) → Type 0 = λ ports. SamePorts ports inside in
    let Q : List (Port g.row.O-Call.Denot g.row.O-Reply.Denot) → Type 0 = λ ports. AreEndsOf ports c.args.ends.items in
    record {
      journal = ap (λ d. d.journal) c.desk.view_is;
      ports = subst P ports (same_ports_refl inside);
      ends_are = same_ends_refl c.args.ends.items;
      lines = subst Q (sym ports) c.requires.lines;
    }

pub returns-in-Some-lowest_unserved-clause-cause : goal.returns-in-Some-lowest_unserved-clause-cause
returns-in-Some-lowest_unserved-clause-cause g c =
    let said = c.in-Some-lowest_unserved.ensures in
    let numbers = numbers_of_same _ _ said.ends in (
      λ k below.
          let E : List (LineValue g.row.O-Call.Denot g.row.O-Reply.Denot) → Type 0 = λ ends. has_number k (end_numbers ends) ≡ true in
          let N : List ℕ → Type 0 = λ given. has_number k given ≡ true in
          subst N (sym numbers) (subst E c.as_slice.ensures.value (c.in_default.ensures.none k (omega (arith, below, said.ports.count, c.desk.invariant.1)))),
      said.calls,
    )

pub note_made-requires-clause-numbers : goal.note_made-requires-clause-numbers
note_made-requires-clause-numbers g c = λ k e below.
    let said = c.in_default-lowest_unserved.ensures in
    let line = said.lines k e below in
    omega (arith, line.within, said.ports.count, c.desk.invariant.2)

pub returns-clause-closed : goal.returns-clause-closed
returns-clause-closed g c =
    let said = c.in_default-lowest_unserved.ensures in
    let history = c.desk.inside.journal.history in
    let before = c.args.ends.items in
    let ends = c.lowest_unserved.new.ends.items in
    let made = c.note_made.new.made_by_line.items in
    let count : length c.args.self.ports ≡ length c.desk.inside.ports.items = sym (ap (λ d. length d.ports) c.desk.view_is) in
    let has_all : HasAll (end_numbers before) (length c.args.self.ports) = λ k below.
    let E : List (LineValue g.row.O-Call.Denot g.row.O-Reply.Denot) → Type 0 = λ ends. has_number k (end_numbers ends) ≡ true in
    subst E c.as_slice.ensures.value (c.in_default.ensures.none k (omega (arith, below, count, c.desk.invariant.1))) in
    let lines : All (λ e. e.line < length c.args.self.ports) history = λ k e below. omega (arith, said.serves.lines k e below, said.ports.count, count) in
    rw (c.into_parts-object.ensures.object, c.into_parts-object.ensures.history) (record {
      history_is = ap (λ d. d.journal.history) c.desk.view_is;
      object_is = ap (λ d. d.journal.object) c.desk.view_is;
      has_all = has_all;
      lines = lines;
      entries = all_below history (length c.args.self.ports) lines;
      calls = own_calls history before
          (λ k e below. served_of_same history (get_or before k e) (get_or ends k e) (said.ends.each k e below) (said.calls k e (omega (arith, below, said.ends.count))));
      replies = own_replies history before
          (λ k e below. prefix_of_same history (get_or before k e) (get_or ends k e) (said.ends.each k e below) (said.replies k e (omega (arith, below, said.ends.count))));
      one_each = c.note_made.ensures.count ∙ (c.desk.invariant.2 ∙ sym count);
      made = λ i below.
          let N : List ℕ → Type 0 = λ given. has_number i given ≡ true in
          let at = has_end ends i (subst N (sym (numbers_of_same before ends said.ends)) (has_all i below)) in
          let e = some_of ends at.0 at.1 in
          let P : ℕ → Type 0 = λ n. get_or made n 0 ≡ length (part n history) in
          subst P (at.2 e) (c.note_made.ensures.made at.0 e at.1);
    })

pub returns-clause-counted : goal.returns-clause-counted
returns-clause-counted g c =
    let closed = returns-clause-closed g c in
    total c.into_parts-object.result.1.items c.note_made.new.made_by_line.items
    (λ i below. closed.made i (omega (arith, below, closed.one_each)))
    (λ k e below. omega (arith, closed.lines k e below, closed.one_each))
