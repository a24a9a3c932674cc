use Rattle.std.proofs.Common.{◌≡◌, ◌++◌, [], append-nil, ℕ, List, Option, refl, sym, ap, subst, ◌∙◌, inl, inr}
use Rattle.std.proofs.lemmas.Result.{err_from_is_err_and}
use Rattle.std.proofs.KnownBytes.{Appends-nil, Appends-trans, Consumes-nil}
use Rattle.std.specs.Io.KnownBytes.{Appends}
use Rattle.std.specs.Str.Lines.{lines}
use Rattle.game_core.specs.Counting.{Counting, one_more}
use Rattle.match_desk.specs.Steps.{reply, after}
use Rattle.command_faults.specs.declared.fault.Fault.{Fault}
use Rattle.game_commands.specs.Interactive.{StopsAnswering, StopsWriting, Writes}
use Rattle.game_commands.specs.Script.{after_lines, answer_lines, desk_after, records}
use Rattle.game_commands.proofs.interactive.run_interactive.Goals as goal

-- the text after the written text is not written completely
stops_after : {W : Type 0} (contents : W → Option (List ℕ)) (before more : List ℕ) (fault : Fault) (writer mid writer' : Counting W)
    → Writes contents before writer mid → StopsWriting contents [] more fault mid writer' → StopsWriting contents before (before ++ more) fault writer writer'
stops_after contents before more fault writer mid writer' writes (inl (short, kept)) =
    inl (short, (subst (λ l. Appends (contents writer.stream) (contents writer'.stream) l) (append-nil before) (Appends-trans _ _ _ _ _ writes.0 kept.0), kept.1 ∙ writes.1))
stops_after contents before more fault writer mid writer' writes (inr (failed, part)) =
    inr (failed, (part.0 ∙ ap one_more writes.1, (part.1.0, ap (λ l. before ++ l) part.1.1, (part.1.2.0, part.1.2.1, Appends-trans _ _ _ _ _ writes.0 part.1.2.2))))

pub returns-in_err-manager-clause-fails : goal.returns-in_err-manager-clause-fails
returns-in_err-manager-clause-fails g c =
    let passed = err_from_is_err_and c.from_residual.result c.from_residual.ensures.1 in
    rw (passed.1, passed.2) ([], Consumes-nil _, inl ([], [], (λ more. refl), (refl, (Appends-nil _, refl))))

pub returns-in-Err-clause-fails : goal.returns-in-Err-clause-fails
returns-in-Err-clause-fails g c =
    let rules = g.G.Game.rules in
    let stops = c.in-Err.ensures.stops in
    let opened = subst (λ d. StopsAnswering g.R.Read.remaining g.W.Write.contents (answer_lines (reply rules) (after rules) d) c.in-Err.fault stops.1 stops.2 c.args.reader.now c.answer_each.new.reader c.args.writer.now c.answer_each.new.writer)
    c.in_ok-manager.ensures stops.5 in
    (stops.0, stops.3, inl (stops.1, stops.2, stops.4, opened))

pub returns-clause-fails : goal.returns-clause-fails
returns-clause-fails g c =
    let rules = g.G.Game.rules in
    let answered = c.in-Ok.ensures.answered in
    let input = answered.0 in
    let games = c.args.games.items in
    let wrote = subst (λ d. Appends (g.W.Write.contents c.args.writer.now.stream) (g.W.Write.contents c.answer_each.new.writer.stream) (answer_lines (reply rules) (after rules) d (lines input))) c.in_ok-manager.ensures answered.3 in
    let left : c.answer_each.new.object ≡ desk_after rules games input = answered.4 ∙ ap (λ d. after_lines (after rules) d (lines input)) c.in_ok-manager.ensures in
    let stops = subst (λ d. StopsWriting g.W.Write.contents [] (records rules d d.matches) c.in-Err-write_records.fault c.answer_each.new.writer c.write_records.new.writer) left c.in-Err-write_records.ensures.stops in
    (input, answered.1, inr (answered.2, c.in-Ok.ensures.no_fault.0, stops_after g.W.Write.contents _ _ c.in-Err-write_records.fault c.args.writer.now c.answer_each.new.writer c.write_records.new.writer (wrote, c.in-Ok.ensures.no_fault.1) stops))

pub returns-in-Ok-write_records-clause-output : goal.returns-in-Ok-write_records-clause-output
returns-in-Ok-write_records-clause-output g c =
    let rules = g.G.Game.rules in
    let answered = c.in-Ok.ensures.answered in
    let input = answered.0 in
    let games = c.args.games.items in
    let wrote = subst (λ d. Appends (g.W.Write.contents c.args.writer.now.stream) (g.W.Write.contents c.answer_each.new.writer.stream) (answer_lines (reply rules) (after rules) d (lines input))) c.in_ok-manager.ensures answered.3 in
    let left : c.answer_each.new.object ≡ desk_after rules games input = answered.4 ∙ ap (λ d. after_lines (after rules) d (lines input)) c.in_ok-manager.ensures in
    let whole = subst (λ d. Appends (g.W.Write.contents c.answer_each.new.writer.stream) (g.W.Write.contents c.write_records.new.writer.stream) (records rules d d.matches)) left c.in-Ok-write_records.ensures.whole.0 in
    (input, answered.1, answered.2, Appends-trans _ _ _ _ _ wrote whole, answered.5)
