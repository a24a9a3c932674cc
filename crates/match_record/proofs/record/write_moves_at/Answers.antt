use Rattle.std.proofs.Common.{◌≡◌, sym, subst, ◌∙◌, arith}
use Rattle.std.specs.Prelude.{slice_get}
use Rattle.std.specs.Str.{IsAscii}
use Rattle.serde_json.specs.Data.{string}
use Rattle.match_record.specs.Internal.Written.{IsWritten}
use Rattle.match_record.proofs.Ascii.{folded_text_is_ascii}
use Rattle.match_record.proofs.RecordLists.{turn-widths}
use Rattle.match_record.proofs.WrittenRecords.{one_added, part_begun, part_more, part_written, part_texts}
use Rattle.match_record.proofs.record.write_moves_at.Goals as goal

pub write_text-requires : goal.write_text-requires
write_text-requires g c =
    let is_move = subst (λ x. (g.G.Game.rules x).IsMove c.move_at.result.now) c.requires.game c.move_at.ensures.is_move in
    subst IsAscii (sym c.move_text.ensures)
    (folded_text_is_ascii ((g.G.Game.rules c.args.game.now).move_text c.move_at.result.now) ((g.met.G.Game.laws c.args.game.now).move_texts_folded c.move_at.result.now is_move))

pub loop-role-init : goal.loop-role-init
loop-role-init g c = (c.begin_array.ensures.room.0, part_begun c.args.out.now c.begin_array.new.self (λ t. t.moves) (λ m. string ((g.G.Game.rules c.args.game.now).move_text m)) (slice_get c.args.held.now.value.turns c.args.turn) (one_added c.in_ok-begin_array.ensures))

pub loop-role-preserved : goal.loop-role-preserved
loop-role-preserved g c =
    let rules = g.G.Game.rules c.args.game.now in (
      c.write_text.ensures.before ∙ c.loop-role.invariant.0,
      part_more c.args.out.now c.loop-role.out c.write_text.new.out (λ t. t.moves) (λ m. string (rules.move_text m)) c.loop-role.role (slice_get c.args.held.now.value.turns c.args.turn) c.move_at.result.now c.loop-role.invariant.1 c.move_at.ensures.taken
          (subst (λ text. IsWritten c.loop-role.out c.write_text.new.out (string text)) c.move_text.ensures c.in_ok-write_text.ensures.written),
    )

pub returns-clause-written : goal.returns-clause-written
returns-clause-written g c =
    let rules = g.G.Game.rules c.args.game.now in
    let turns = c.args.held.now.value.turns in
    let all : rules.roles ≡ c.loop-role.role = omega (arith, c.loop-role-test.false, c.loop-role.auto.role-end, c.roles-role-end.ensures) in
    part_texts c.args.out.now c.end_array.new.self (λ t. t.moves) rules.move_text (slice_get turns c.args.turn)
    (part_written c.args.out.now c.loop-role.out c.end_array.new.self (λ t. t.moves) (λ m. string (rules.move_text m)) c.loop-role.role turns c.args.turn (λ t at. (turn-widths rules turns c.args.turn t c.requires.lawful.turns at).0 ∙ all) c.loop-role.invariant.1 (one_added c.in_ok-end_array.ensures))
