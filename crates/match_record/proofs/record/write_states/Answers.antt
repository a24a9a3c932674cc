use Rattle.std.proofs.Common.{◌≡◌, ◌<◌, ◌≤◌, ◌+◌, ◌∷◌, [], ap, sym, subst, ◌∙◌, arith, map, take, length}
use Rattle.std.proofs.lemmas.List.{take_all, map-append}
use Rattle.match_book.specs.MatchValue.{state_after}
use Rattle.match_record.specs.Internal.Written.{IsWritten, HasBegun}
use Rattle.record_reading.specs.RecordParts.{prefixes}
use Rattle.record_reading.specs.RecordTree.{list_tree, texts_tree}
use Rattle.match_record.proofs.RecordLists.{prefixes-next, map_twice}
use Rattle.match_record.proofs.WrittenRecords.{one_added, begun_more, list_written}
use Rattle.match_record.proofs.record.write_states.Goals as goal

pub loop-turn-init : goal.loop-turn-init
loop-turn-init g c =
    let rules = g.G.Game.rules c.args.game.now in
    let first = c.state_after.result.now in
    let here : first ≡ state_after rules [] = subst (λ x. first ≡ state_after (g.G.Game.rules x) []) c.requires.game c.state_after.ensures.state in
    begun_more [] (texts_tree (rules.state_text (state_after rules []))) (one_added c.in_ok-begin_array.ensures)
    (subst (λ s. IsWritten c.begin_array.new.self c.write_state.new.out (texts_tree (rules.state_text s))) here c.in_ok-write_state.ensures.written)

pub loop-turn-preserved : goal.loop-turn-preserved
loop-turn-preserved g c =
    let rules = g.G.Game.rules c.args.game.now in
    let turns = c.args.held.now.value.turns in
    let turn = c.loop-turn.turn in
    let state = c.state_after-in-loop-turn.result.now in
    let here : state ≡ state_after rules (take (turn + 1) turns) = subst (λ x. state ≡ state_after (g.G.Game.rules x) (take (turn + 1) turns)) c.requires.game c.state_after-in-loop-turn.ensures.state in
    let within : turn < length turns = omega (arith, c.loop-turn-test.true, c.turns-turn-end.ensures) in
    subst (HasBegun c.args.out.now c.write_state-in-loop-turn.new.out)
    (sym (ap (map (λ front. texts_tree (rules.state_text (state_after rules front)))) (prefixes-next turns turn within) ∙ map-append (λ front. texts_tree (rules.state_text (state_after rules front))) (prefixes (take turn turns)) (take (turn + 1) turns ∷ [])))
    (begun_more (map (λ front. texts_tree (rules.state_text (state_after rules front))) (prefixes (take turn turns))) (texts_tree (rules.state_text (state_after rules (take (turn + 1) turns)))) c.loop-turn.invariant
    (subst (λ s. IsWritten c.loop-turn.out c.write_state-in-loop-turn.new.out (texts_tree (rules.state_text s))) here c.in_ok-write_state-2.ensures.written))

pub returns-clause-written : goal.returns-clause-written
returns-clause-written g c =
    let rules = g.G.Game.rules c.args.game.now in
    let turns = c.args.held.now.value.turns in
    let past : length turns ≤ c.loop-turn.turn = omega (arith, c.loop-turn-test.false, c.turns-turn-end.ensures) in
    subst (λ ts. IsWritten c.args.out.now c.end_array.new.self (list_tree ts)) (ap (λ ts. map (λ front. texts_tree (rules.state_text (state_after rules front))) (prefixes ts)) (take_all c.loop-turn.turn turns past) ∙ map_twice texts_tree (λ front. rules.state_text (state_after rules front)) (prefixes turns))
    (list_written (map (λ front. texts_tree (rules.state_text (state_after rules front))) (prefixes (take c.loop-turn.turn turns))) c.loop-turn.invariant (one_added c.in_ok-end_array.ensures))
