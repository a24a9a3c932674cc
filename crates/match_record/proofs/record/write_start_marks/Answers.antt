use Rattle.std.proofs.Common.{◌<◌, ◌≤◌, None, arith, length, sym, subst}
use Rattle.std.specs.Prelude.{IfSome}
use Rattle.std.specs.Str.{IsAscii}
use Rattle.std.proofs.lemmas.Option.{slice_get-get_or}
use Rattle.match_book.specs.Roles.{at_role}
use Rattle.match_record.specs.Internal.Written.{IsWritten}
use Rattle.record_reading.specs.RecordTree.{mark_tree, text_or_null}
use Rattle.match_record.proofs.Ascii.{marks_are_ascii}
use Rattle.match_record.proofs.WrittenRecords.{one_added, begun_next, all_written}
use Rattle.match_record.proofs.record.write_start_marks.Goals as goal

pub write_text_or_null-requires : goal.write_text_or_null-requires
write_text_or_null-requires g c = subst (λ o. IfSome o IsAscii) (sym c.start_mark.ensures) (marks_are_ascii (at_role c.args.held.now.value.start_marks c.loop-role.role))

pub loop-role-init : goal.loop-role-init
loop-role-init g c = one_added c.in_ok-begin_array.ensures

pub loop-role-preserved : goal.loop-role-preserved
loop-role-preserved g c =
    let marks = c.args.held.now.value.start_marks in
    let role = c.loop-role.role in
    let within : role < length marks = omega (arith, c.roles-role-end.ensures, c.loop-role-test.true, c.requires.lawful.one_start_mark) in
    begun_next mark_tree marks role (at_role marks role) (slice_get-get_or marks role None within) c.loop-role.invariant
    (subst (λ o. IsWritten c.loop-role.out c.write_text_or_null.new.out (text_or_null o)) c.start_mark.ensures c.in_ok-write_text_or_null.ensures.written)

pub returns-clause-written : goal.returns-clause-written
returns-clause-written g c =
    let marks = c.args.held.now.value.start_marks in
    let past : length marks ≤ c.loop-role.role = omega (arith, c.roles-role-end.ensures, c.loop-role-test.false, c.requires.lawful.one_start_mark) in
    all_written mark_tree marks c.loop-role.role past c.loop-role.invariant (one_added c.in_ok-end_array.ensures)
