use Rattle.std.proofs.Common.{subst, ◌∙◌}
use Rattle.whole_streams.specs.Streams.{AppendsPart}
use Rattle.call_history.specs.History.{EndsLegalHistory}
use Rattle.desk_service.proofs.AnsweredRows.{answered_keeps_number}
use Rattle.desk_service.proofs.Written.{says, tried_part}
use Rattle.desk_service.proofs.conversation.converse.Goals as goal

pub returns-clause-number : goal.returns-clause-number
returns-clause-number g c =
    let legal = EndsLegalHistory g.O.Object.reply g.O.Object.after g.O.Object.opening in
    let all = c.answer_all-ending.ensures in
    all.6.0 ∙ answered_keeps_number legal c.args.line.now all.3 all.0 all.1 all.2 all.5

pub returns-clause-answered : goal.returns-clause-answered
returns-clause-answered g c =
    let all = c.answer_all-ending.ensures in
    let contents = g.W.Write.contents in
    let mid = contents c.answer_all-ending.new.writer.stream in
    let end = contents c.write_all.new.writer.stream in
    let row = subst (AppendsPart mid end) c.last_row.ensures (tried_part c.write_all.result mid end _ c.write_all.ensures.whole c.write_all.ensures.prefix) in
    (all.0, all.1, all.2, all.3, all.4, all.5, all.6, all.7, says c.answer_all-ending.result _ mid end all.1 all.8 row)
