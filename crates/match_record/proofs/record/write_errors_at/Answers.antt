use Rattle.std.proofs.Common.{◌≡◌, ◌<◌, ◌∙◌, arith}
use Rattle.std.specs.Prelude.{slice_get}
use Rattle.serde_json.specs.Data.{string}
use Rattle.match_record.proofs.Ascii.{error_is_ascii}
use Rattle.match_record.proofs.RecordLists.{turn-widths}
use Rattle.match_record.proofs.WrittenRecords.{one_added, part_begun, part_more, part_written}
use Rattle.match_record.proofs.record.write_errors_at.Goals as goal

pub write_text-requires : goal.write_text-requires
write_text-requires g c =
    let rules = g.G.Game.rules c.args.game.now in
    let within : c.loop-role.role < rules.roles = omega (arith, c.roles-role-end.ensures, c.loop-role-test.true) in
    error_is_ascii rules c.args.held.now.value.turns c.args.turn c.loop-role.role c.error_at.result.now c.requires.lawful.turns c.requires.turn within c.error_at.ensures

pub loop-role-init : goal.loop-role-init
loop-role-init g c = (c.begin_array.ensures.room.0, part_begun c.args.out.now c.begin_array.new.self (λ t. t.errors) string (slice_get c.args.held.now.value.turns c.args.turn) (one_added c.in_ok-begin_array.ensures))

pub loop-role-preserved : goal.loop-role-preserved
loop-role-preserved g c =
    let rules = g.G.Game.rules c.args.game.now in (
      c.write_text.ensures.before ∙ c.loop-role.invariant.0,
      part_more c.args.out.now c.loop-role.out c.write_text.new.out (λ t. t.errors) string c.loop-role.role (slice_get c.args.held.now.value.turns c.args.turn) c.error_at.result.now c.loop-role.invariant.1 c.error_at.ensures c.in_ok-write_text.ensures.written,
    )

pub returns-clause-written : goal.returns-clause-written
returns-clause-written g c =
    let rules = g.G.Game.rules c.args.game.now in
    let turns = c.args.held.now.value.turns in
    let all : rules.roles ≡ c.loop-role.role = omega (arith, c.loop-role-test.false, c.loop-role.auto.role-end, c.roles-role-end.ensures) in
    part_written c.args.out.now c.loop-role.out c.end_array.new.self (λ t. t.errors) string c.loop-role.role turns c.args.turn (λ t at. (turn-widths rules turns c.args.turn t c.requires.lawful.turns at).1 ∙ all) c.loop-role.invariant.1 (one_added c.in_ok-end_array.ensures)
