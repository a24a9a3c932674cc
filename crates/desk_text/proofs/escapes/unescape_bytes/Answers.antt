use Rattle.std.proofs.Common.{rules, ◌≡◌, ◌+◌, ◌≤◌, ◌<◌, Some, drop, length, arith}
use Rattle.std.proofs.lemmas.List.{take_rest}
use Rattle.desk_text.specs.Escapes.{before_rest, unescaped}
use Rattle.desk_text.proofs.EscapedTexts.{none_yet, kept_in_place}
use Rattle.desk_text.proofs.escapes.unescape_bytes.Goals as goal

pub loop-place-init : goal.loop-place-init
loop-place-init c = record { kept = omega arith; within = omega arith; read = none_yet _ }

pub loop-place-preserved : goal.loop-place-preserved
loop-place-preserved c =
    let bytes = c.loop-place.bytes.items in
    let kept = c.loop-place.kept in
    let place = c.loop-place.place in
    let byte = c.in-Some.byte in
    let taken = c.in-Some.taken in
    let inv = c.loop-place.invariant in
    let some : 0 < taken = search rules in
    let within : place + taken ≤ length bytes = search (rules, arith) in
    let read : unescaped (drop place bytes) ≡ before_rest (Some byte) (unescaped (drop taken (drop place bytes))) = rw (take_rest c.deref.result.now place, c.deref.ensures.value) at c.in-Some.ensures.read in
    record {
      kept = omega (arith, inv.kept, some);
      within = search (rules, arith);
      read = kept_in_place bytes kept place taken byte _ inv.kept some within read inv.read;
    }
