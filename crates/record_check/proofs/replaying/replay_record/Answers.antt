use Rattle.std.proofs.Common.{rules, inr}
use Rattle.std.proofs.lemmas.Result.{err_from_is_err_and}
use Rattle.record_check.specs.Replaying.{AreGoalsIn, IsReplayed, IsFirstFault}
use Rattle.record_reading.specs.declared.record_parts.Key.TheVariants.{StartMarks, EndMarks}
use Rattle.record_reading.specs.declared.verify_fault.VerifyFault.TheVariants.{WrongGoals, WrongEnd}
use Rattle.record_check.proofs.LawfulRecords.{record-lawful, fault-not_lawful}
use Rattle.record_check.proofs.replaying.replay_record.Goals as goal

pub returns-in_err-state-clause-not_lawful : goal.returns-in_err-state-clause-not_lawful
returns-in_err-state-clause-not_lawful g c =
    let passed = err_from_is_err_and c.from_residual.result c.from_residual.ensures.1 in
    rw (passed.1, passed.2) (fault-not_lawful (g.G.Game.rules c.args.game.now) (g.met.G.Game.laws c.args.game.now) (c.lawful_turns_are_of_the_game.ensures.states c.args.game.now) (c.lawful_turns_are_of_the_game.ensures.moves c.args.game.now) (c.stages_are_settled.ensures.stopping c.args.game.now) c.args.parts.now c.in_err-state.field-0.0 c.in_err-state.ensures)

pub returns-then-not-branch-clause-not_lawful : goal.returns-then-not-branch-clause-not_lawful
returns-then-not-branch-clause-not_lawful g c =
    let game = g.G.Game.rules c.args.game.now in
    let fault : IsFirstFault game c.args.parts.now WrongGoals = search rules in
    fault-not_lawful game (g.met.G.Game.laws c.args.game.now) (c.lawful_turns_are_of_the_game.ensures.states c.args.game.now) (c.lawful_turns_are_of_the_game.ensures.moves c.args.game.now) (c.stages_are_settled.ensures.stopping c.args.game.now) c.args.parts.now WrongGoals fault

pub is_right_end-requires-clause-starts : goal.is_right_end-requires-clause-starts
is_right_end-requires-clause-starts g c = c.requires.keys StartMarks

pub is_right_end-requires-clause-ends : goal.is_right_end-requires-clause-ends
is_right_end-requires-clause-ends g c = c.requires.keys EndMarks

pub returns-then-not-branch-2-clause-first : goal.returns-then-not-branch-2-clause-first
returns-then-not-branch-2-clause-first g c =
    let game = g.G.Game.rules c.args.game.now in
    let p = c.args.parts.now in
    let played : IsReplayed game p c.in_ok-state.state = c.in_ok-state.ensures.0 in
    let goals : AreGoalsIn game p.phase c.in_ok-state.state p.goals = search rules in
    inr (
      c.in_ok-state.state,
      played,
      goals,
      λ end.
          let yes = (c.in_ok-is_right_end.ensures played.leads.turns played.leads.many played.leads.state c.in_ok-state.ensures.1).1 end in
          let no = c.if-not-branch-2.true in
          absurd cc,
    )

pub returns-then-not-branch-2-clause-not_lawful : goal.returns-then-not-branch-2-clause-not_lawful
returns-then-not-branch-2-clause-not_lawful g c =
    let game = g.G.Game.rules c.args.game.now in
    let p = c.args.parts.now in
    let played : IsReplayed game p c.in_ok-state.state = c.in_ok-state.ensures.0 in
    let goals : AreGoalsIn game p.phase c.in_ok-state.state p.goals = search rules in
    let fault : IsFirstFault game p WrongEnd =
    inr (
      c.in_ok-state.state,
      played,
      goals,
      λ end.
          let yes = (c.in_ok-is_right_end.ensures played.leads.turns played.leads.many played.leads.state c.in_ok-state.ensures.1).1 end in
          let no = c.if-not-branch-2.true in
          absurd cc,
    ) in
    fault-not_lawful game (g.met.G.Game.laws c.args.game.now) (c.lawful_turns_are_of_the_game.ensures.states c.args.game.now) (c.lawful_turns_are_of_the_game.ensures.moves c.args.game.now) (c.stages_are_settled.ensures.stopping c.args.game.now) p WrongEnd fault

pub returns-clause-lawful : goal.returns-clause-lawful
returns-clause-lawful g c =
    let game = g.G.Game.rules c.args.game.now in
    let p = c.args.parts.now in
    let played : IsReplayed game p c.in_ok-state.state = c.in_ok-state.ensures.0 in
    let goals : AreGoalsIn game p.phase c.in_ok-state.state p.goals = search rules in
    let right = (c.in_ok-is_right_end.ensures played.leads.turns played.leads.many played.leads.state c.in_ok-state.ensures.1).0 c.if-not-branch-2.false in
    record-lawful game (c.begun_rounds_are_open.ensures c.args.game.now) p c.requires c.in_ok-state.state played goals right
