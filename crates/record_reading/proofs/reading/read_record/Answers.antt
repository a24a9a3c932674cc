use Rattle.std.proofs.Common.{suc, ◌≡◌, length, refl, inl, inr, arith}
use Rattle.serde_json.specs.View.{view}
use Rattle.record_reading.specs.LawfulRecord.{HasWrongLength}
use Rattle.record_reading.specs.declared.record_parts.Key.TheVariants.{Errors, States}
use Rattle.record_reading.proofs.KeptTrees.{ends_there, holds_there}
use Rattle.record_reading.proofs.KeyTable.{ends_read}
use Rattle.record_reading.proofs.ReadRecords.{Says, lawful_record, lawful_parts, no_shape_refuses, wrong_length_refuses}
use Rattle.record_reading.proofs.reading.read_record.Goals as goal

pub returns-in_err-parts-clause-err : goal.returns-in_err-parts-clause-err
returns-in_err-parts-clause-err g c =
    let rules = g.G.Game.rules c.args.game.now in
    let (tree, json, kept) = c.in_ok-tree.ensures.ok in
    ends_read rules c.args.text.now tree c.from_residual-in_err-parts.result c.from_residual-in_err-parts.ensures.1 json (ends_there tree (view c.in_ok-tree.tree) kept rules _ c.in_err-parts.ensures.err)

pub returns-in_err-parts-clause-refused : goal.returns-in_err-parts-clause-refused
returns-in_err-parts-clause-refused g c =
    no_shape_refuses (g.G.Game.rules c.args.game.now) c.refused_is_unlawful.ensures c.args.text.now c.from_residual-in_err-parts.result (returns-in_err-parts-clause-err g c)

pub returns-then-count-turns-clause-err : goal.returns-then-count-turns-clause-err
returns-then-count-turns-clause-err g c =
    let parts = c.in_ok-parts.parts in
    let held = holds_there c.in_ok-tree.ensures.ok.0 (view c.in_ok-tree.tree) c.in_ok-tree.ensures.ok.2 parts c.in_ok-parts.ensures.ok.0 in
    let wrong : HasWrongLength parts Errors = inl (refl, λ same. c.if-count-turns.true (omega (arith, c.count.ensures, c.count-turns.ensures, same))) in
    (c.in_ok-tree.ensures.ok.0, c.in_ok-tree.ensures.ok.1, inr (parts, held, c.in_ok-parts.ensures.ok.1, wrong))

pub returns-then-count-turns-2-clause-err : goal.returns-then-count-turns-2-clause-err
returns-then-count-turns-2-clause-err g c =
    let parts = c.in_ok-parts.parts in
    let held = holds_there c.in_ok-tree.ensures.ok.0 (view c.in_ok-tree.tree) c.in_ok-tree.ensures.ok.2 parts c.in_ok-parts.ensures.ok.0 in
    let many : length parts.errors ≡ length parts.moves = omega (arith, c.if-count-turns.false, c.count.ensures, c.count-turns.ensures) in
    let wrong : HasWrongLength parts States = inr (refl, many, λ same. c.if-count-turns-2.true (omega (arith, c.count-2.ensures, c.count-turns.ensures, same))) in
    (c.in_ok-tree.ensures.ok.0, c.in_ok-tree.ensures.ok.1, inr (parts, held, c.in_ok-parts.ensures.ok.1, wrong))

pub returns-clause-ok : goal.returns-clause-ok
returns-clause-ok g c =
    let parts = c.in_ok-parts.parts in
    let held = holds_there c.in_ok-tree.ensures.ok.0 (view c.in_ok-tree.tree) c.in_ok-tree.ensures.ok.2 parts c.in_ok-parts.ensures.ok.0 in
    let many : length parts.errors ≡ length parts.moves = omega (arith, c.if-count-turns.false, c.count.ensures, c.count-turns.ensures) in
    let more : length parts.states ≡ suc (length parts.moves) = omega (arith, c.if-count-turns-2.false, c.count-2.ensures, c.count-turns.ensures) in
    (c.in_ok-tree.ensures.ok.0, c.in_ok-tree.ensures.ok.1, held, record { keys = c.in_ok-parts.ensures.ok.1; as_many_errors = many; one_state_more = more })

pub returns-then-count-turns-clause-refused : goal.returns-then-count-turns-clause-refused
returns-then-count-turns-clause-refused g c =
    let parts = c.in_ok-parts.parts in
    let held = holds_there c.in_ok-tree.ensures.ok.0 (view c.in_ok-tree.tree) c.in_ok-tree.ensures.ok.2 parts c.in_ok-parts.ensures.ok.0 in
    let wrong : HasWrongLength parts Errors = inl (refl, λ same. c.if-count-turns.true (omega (arith, c.count.ensures, c.count-turns.ensures, same))) in
    wrong_length_refuses (g.G.Game.rules c.args.game.now) c.refused_is_unlawful.ensures c.args.text.now c.in_ok-tree.ensures.ok.0 parts Errors c.in_ok-tree.ensures.ok.1 (held, c.in_ok-parts.ensures.ok.1) wrong

pub returns-then-count-turns-2-clause-refused : goal.returns-then-count-turns-2-clause-refused
returns-then-count-turns-2-clause-refused g c =
    let parts = c.in_ok-parts.parts in
    let held = holds_there c.in_ok-tree.ensures.ok.0 (view c.in_ok-tree.tree) c.in_ok-tree.ensures.ok.2 parts c.in_ok-parts.ensures.ok.0 in
    let many : length parts.errors ≡ length parts.moves = omega (arith, c.if-count-turns.false, c.count.ensures, c.count-turns.ensures) in
    let wrong : HasWrongLength parts States = inr (refl, many, λ same. c.if-count-turns-2.true (omega (arith, c.count-2.ensures, c.count-turns.ensures, same))) in
    wrong_length_refuses (g.G.Game.rules c.args.game.now) c.refused_is_unlawful.ensures c.args.text.now c.in_ok-tree.ensures.ok.0 parts States c.in_ok-tree.ensures.ok.1 (held, c.in_ok-parts.ensures.ok.1) wrong

pub returns-clause-lawful : goal.returns-clause-lawful
returns-clause-lawful g c =
    let rules = g.G.Game.rules c.args.game.now in
    let parts = c.in_ok-parts.parts in
    let held = holds_there c.in_ok-tree.ensures.ok.0 (view c.in_ok-tree.tree) c.in_ok-tree.ensures.ok.2 parts c.in_ok-parts.ensures.ok.0 in
    let many : length parts.errors ≡ length parts.moves = omega (arith, c.if-count-turns.false, c.count.ensures, c.count-turns.ensures) in
    let more : length parts.states ≡ suc (length parts.moves) = omega (arith, c.if-count-turns-2.false, c.count-2.ensures, c.count-turns.ensures) in
    let says : Says rules c.args.text.now parts = (c.in_ok-tree.ensures.ok.0, c.in_ok-tree.ensures.ok.1, held, record { keys = c.in_ok-parts.ensures.ok.1; as_many_errors = many; one_state_more = more }) in
    (λ found. lawful_parts rules c.lawful_parts_have_shape.ensures c.holds_one_parts_at_most.ensures c.args.text.now parts says found, λ lawful. lawful_record rules c.args.text.now parts says lawful)
