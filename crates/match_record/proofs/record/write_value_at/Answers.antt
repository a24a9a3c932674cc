use Rattle.std.proofs.Common.{ap, ◌∙◌, sym, subst}
use Rattle.std.specs.Prelude.{All, OnOk}
use Rattle.std.specs.Str.{IsAscii}
use Rattle.serde_json.specs.Data.{string}
use Rattle.match_record.specs.Internal.Written.{IsWritten}
use Rattle.record_reading.specs.RecordTree.{texts_tree, whole_tree}
use Rattle.match_record.proofs.Ascii.{name_is_ascii, names_are_ascii, phase_is_ascii}
use Rattle.match_record.proofs.record.write_value_at.Goals as goal

pub write_text-requires : goal.write_text-requires
write_text-requires g c = subst IsAscii (sym (c.as_slice.ensures ∙ ap (λ s. s.id) c.setup-setup.ensures)) (name_is_ascii c.args.held.now.value.setup.id c.requires.setup.id)

pub write_text-requires-in-Phase : goal.write_text-requires-in-Phase
write_text-requires-in-Phase g c = subst IsAscii (sym c.phase_text.ensures) (phase_is_ascii c.status.result.phase)

pub write_texts-requires : goal.write_texts-requires
write_texts-requires g c = subst (λ ts. All IsAscii ts) (sym (c.as_slice-in-Players.ensures ∙ ap (λ s. s.players) c.setup-setup.ensures)) (names_are_ascii c.args.held.now.value.setup.players c.requires.setup.players)

pub returns-in-Cause-clause-written : goal.returns-in-Cause-clause-written
returns-in-Cause-clause-written g c = rw (c.in-Cause.is, sym c.requires.game, sym c.cause.ensures) c.write_cause.ensures.written

pub returns-in-MatchId-clause-written : goal.returns-in-MatchId-clause-written
returns-in-MatchId-clause-written g c = rw c.in-MatchId.is (subst (λ id. OnOk c.write_text.result (IsWritten c.args.out.now c.write_text.new.out (string id))) (c.as_slice.ensures ∙ ap (λ s. s.id) c.setup-setup.ensures) c.write_text.ensures.written)

pub returns-in-Phase-clause-written : goal.returns-in-Phase-clause-written
returns-in-Phase-clause-written g c = rw (c.in-Phase.is, sym c.requires.game, sym (ap (λ s. s.phase) c.status.ensures), sym c.phase_text.ensures) c.write_text-in-Phase.ensures.written

pub returns-in-Players-clause-written : goal.returns-in-Players-clause-written
returns-in-Players-clause-written g c = rw c.in-Players.is (subst (λ ts. OnOk c.write_texts.result (IsWritten c.args.out.now c.write_texts.new.out (texts_tree ts))) (c.as_slice-in-Players.ensures ∙ ap (λ s. s.players) c.setup-setup.ensures) c.write_texts.ensures.written)

pub returns-in-PlayClock-clause-written : goal.returns-in-PlayClock-clause-written
returns-in-PlayClock-clause-written g c = rw c.in-PlayClock.is (subst (λ n. OnOk c.write_whole.result (IsWritten c.args.out.now c.write_whole.new.out (whole_tree n))) (c.from.ensures ∙ ap (λ s. s.play) c.setup-setup.ensures) c.write_whole.ensures.written)

pub returns-in-StartClock-clause-written : goal.returns-in-StartClock-clause-written
returns-in-StartClock-clause-written g c = rw c.in-StartClock.is (subst (λ n. OnOk c.write_whole-in-StartClock.result (IsWritten c.args.out.now c.write_whole-in-StartClock.new.out (whole_tree n))) (c.from-in-StartClock.ensures ∙ ap (λ s. s.start) c.setup-setup.ensures) c.write_whole-in-StartClock.ensures.written)

pub returns-in-Strikes-clause-written : goal.returns-in-Strikes-clause-written
returns-in-Strikes-clause-written g c = rw c.in-Strikes.is (subst (λ n. OnOk c.write_whole-in-Strikes.result (IsWritten c.args.out.now c.write_whole-in-Strikes.new.out (whole_tree n))) (c.from-in-Strikes.ensures ∙ ap (λ s. s.strikes) c.setup-setup.ensures) c.write_whole-in-Strikes.ensures.written)

pub returns-in-Version-clause-written : goal.returns-in-Version-clause-written
returns-in-Version-clause-written g c = rw c.in-Version.is (subst (λ n. OnOk c.write_whole-in-Version.result (IsWritten c.args.out.now c.write_whole-in-Version.new.out (whole_tree n))) (c.from-in-Version.ensures ∙ c.number.ensures) c.write_whole-in-Version.ensures.written)

pub returns-in-EndMarks-clause-written : goal.returns-in-EndMarks-clause-written
returns-in-EndMarks-clause-written g c = rw c.in-EndMarks.is c.write_end_marks.ensures.written

pub returns-in-Errors-clause-written : goal.returns-in-Errors-clause-written
returns-in-Errors-clause-written g c = rw c.in-Errors.is c.write_errors.ensures.written

pub returns-in-GoalValues-clause-written : goal.returns-in-GoalValues-clause-written
returns-in-GoalValues-clause-written g c = rw c.in-GoalValues.is c.write_goals.ensures.written

pub returns-in-Moves-clause-written : goal.returns-in-Moves-clause-written
returns-in-Moves-clause-written g c = rw c.in-Moves.is c.write_moves.ensures.written

pub returns-in-Roles-clause-written : goal.returns-in-Roles-clause-written
returns-in-Roles-clause-written g c = rw c.in-Roles.is c.write_role_names.ensures.written

pub returns-in-StartMarks-clause-written : goal.returns-in-StartMarks-clause-written
returns-in-StartMarks-clause-written g c = rw c.in-StartMarks.is c.write_start_marks.ensures.written

pub returns-in-States-clause-written : goal.returns-in-States-clause-written
returns-in-States-clause-written g c = rw c.in-States.is c.write_states.ensures.written
