use Rattle.std.proofs.Common.{false, ◌≤◌, ◌+◌, sym, ◌∙◌, arith}
use Rattle.std.proofs.lemmas.List.{get_or-drop}
use Rattle.packed_rules.specs.Bits.{bits_of}
use Rattle.packed_rules.proofs.BitRows.{bits-get, bits-past}
use Rattle.packed_rules.proofs.bits.is_on_after.Goals as goal
use Rattle.packed_rules.proofs.bits.is_on_after.Goals.{else-start-size-via-then-start-size+else-place-size, else-start-size-via-else-start-size}

pub returns-then-place-size : goal.returns-then-place-size
returns-then-place-size c =
    let words = c.args.words.now in
    let at = c.args.start + c.args.place in
    c.test.ensures
    ∙ (sym (bits-get words c.args.size at (omega (arith, c.if-start-size.true, c.if-place-size.true)))
    ∙ sym (get_or-drop c.args.start (bits_of words c.args.size) c.args.place false))

pub returns-else-start-size : goal.returns-else-start-size
returns-else-start-size c =
    let words = c.args.words.now in
    let past : c.args.size ≤ c.args.start + c.args.place = elim c.else-start-size.branch [
      | else-start-size-via-then-start-size+else-place-size w ↦ omega (arith, w.if-start-size.true, w.if-place-size.false)
      | else-start-size-via-else-start-size w ↦ omega (arith, w.if-start-size.false)
    ] in
    sym (get_or-drop c.args.start (bits_of words c.args.size) c.args.place false ∙ bits-past words c.args.size (c.args.start + c.args.place) past)
