use Rattle.std.proofs.Common.{◌≡◌, ◌++◌, [], sym, subst}
use Rattle.std.proofs.KnownBytes.{Appends-nil, Appends-trans, Consumes-nil, Consumes-trans}
use Rattle.call_history.specs.History.{EndsLegalHistory}
use Rattle.desk_service.specs.Rows.{Answered, IsPartialRow}
use Rattle.desk_service.proofs.AnsweredRows.{answered_on, empty_row, none_answered}
use Rattle.desk_service.proofs.Written.{more_written}
use Rattle.desk_service.proofs.conversation.answer_all.Goals as goal

pub loop-turn-init : goal.loop-turn-init
loop-turn-init g c =
    let legal = EndsLegalHistory g.O.Object.reply g.O.Object.after g.O.Object.opening in
    let line = c.args.line.now in
    let none = c.new-row.ensures.items in
    record {
      answered = ([], [], Consumes-nil _, subst (λ l. Answered legal line line [] [] l) (sym none) (none_answered legal line []), Appends-nil _);
      partial = subst IsPartialRow (sym none) empty_row;
    }

pub returns-in-Err : goal.returns-in-Err
returns-in-Err g c =
    let legal = EndsLegalHistory g.O.Object.reply g.O.Object.after g.O.Object.opening in
    let was = c.loop-turn.invariant.answered in
    let now = c.in-Err.ensures in (
      was.0 ++ now.0,
      was.1 ++ now.1,
      now.2,
      now.3,
      Consumes-trans _ _ _ _ _ was.2 now.4,
      answered_on legal c.args.line.now c.loop-turn.line now.3 was.0 now.0 was.1 now.1 c.loop-turn.row.items now.2 was.3 now.5,
      now.6.0,
      now.6.1,
      more_written c.in-Err.ending _ _ _ was.1 now.1 was.4 now.6.2,
    )

pub loop-turn-preserved : goal.loop-turn-preserved
loop-turn-preserved g c =
    let legal = EndsLegalHistory g.O.Object.reply g.O.Object.after g.O.Object.opening in
    let line = c.args.line.now in
    let was = c.loop-turn.invariant.answered in
    let now = c.in-Ok.ensures in
    let given = was.0 ++ now.0 in
    let text = was.1 ++ now.1 in
    let left : c.answer_read.new.row.items ≡ now.2 = now.6.0 in
    let last : now.3 ≡ c.answer_read.new.line = now.6.2 in
    let after = answered_on legal line c.loop-turn.line now.3 was.0 now.0 was.1 now.1 c.loop-turn.row.items now.2 was.3 now.5 in
    record {
      answered = (
        given,
        text,
        Consumes-trans _ _ _ _ _ was.2 now.4,
        subst (λ l. Answered legal line l given text c.answer_read.new.row.items) last (subst (λ l. Answered legal line now.3 given text l) (sym left) after),
        Appends-trans _ _ _ _ _ was.4 now.6.3,
      );
      partial = subst IsPartialRow (sym left) now.6.1;
    }
