use Rattle.std.proofs.Common.{◌+◌, ap, sym, ◌∙◌, take}
use Rattle.std.specs.Prelude.{option_copied}
use Rattle.match_record.specs.RecordTree.{record_text}
use Rattle.game_commands.specs.Script.{records}
use Rattle.game_commands.proofs.Records.{one_match, one_line}
use Rattle.game_commands.proofs.answers.push_records.Goals as goal

pub loop-place-preserved : goal.loop-place-preserved
loop-place-preserved g c =
    let rules = g.G.Game.rules in
    let d = c.args.manager.now in
    let k = c.loop-place.place in
    let held = c.unwrap-held.result.now in
    let here = one_match rules d k c.unwrap-game.result.now held
    (sym c.game_of_match.ensures ∙ ap option_copied c.unwrap-game.ensures)
    (sym c.match_at.ensures ∙ ap option_copied c.unwrap-held.ensures) in
    one_line c.args.out.now.items (records rules d (take k d.matches)) (record_text (rules c.unwrap-game.result.now) held.value) (records rules d (take (k + 1) d.matches))
    c.loop-place.out.items c.push_record.new.out.items c.push.new.self.items
    c.loop-place.invariant c.in_ok-push_record.ensures.text c.in_ok-push.ensures.items here
