use Rattle.std.proofs.Common.{◌++◌, ◌∙◌, [], ap, arith, refl}
use Rattle.std.proofs.KnownBytes.{Appends-nil}
use Rattle.player_commands.specs.Tables.{header}
use Rattle.player_commands.proofs.RoleTables.{all-told, ends-earlier, if-is, no-table, none-told, part-next, told-next}
use Rattle.player_commands.proofs.check.check_player.Goals as goal

pub loop-role-init : goal.loop-role-init
loop-role-init g c = record { faults = refl; clear = λ lt. absurd (omega (arith, lt)); told = none-told _ _ _ _ (c.in_ok-extend_from_slice.ensures.items ∙ ap (λ table. table ++ header) c.new-table.ensures.items) }

pub loop-role-preserved : goal.loop-role-preserved
loop-role-preserved g c =
    let told = c.in_ok-more.ensures.told in
    record {
      faults = c.in_ok-write_all.ensures.no_fault ∙ c.loop-role.invariant.faults;
      clear = λ _. c.in_ok-more.ensures.clear;
      told = told-next _ _ _ _ _ _ _ _ _ _ _ _ _ _ c.loop-role.invariant.told told.1 c.saturating_add-bad.ensures told.2 c.deref.ensures.value c.in_ok-write_all.ensures.whole c.clear.ensures.items;
    }

pub returns-clause-table : goal.returns-clause-table
returns-clause-table g c = all-told _ _ _ _ _ _ _ (omega (arith, c.loop-role-test.false, c.loop-role.auto.role-end, c.roles-role-end.ensures)) c.loop-role.invariant.told

pub returns-clause-clear : goal.returns-clause-clear
returns-clause-clear g c = c.loop-role.invariant.clear (omega (arith, c.loop-role-test.false, c.loop-role.auto.role-end, c.roles-role-end.ensures, c.args.game.game.now.vocabulary.some_role))

pub returns-in_err-extend_from_slice-clause-early : goal.returns-in_err-extend_from_slice-clause-early
returns-in_err-extend_from_slice-clause-early g c = if-is _ _ _ c.from_residual.ensures.1 (0, 0, [], omega (arith, c.args.game.game.now.vocabulary.some_role), no-table _ _, Appends-nil _)

pub returns-in_err-more-clause-early : goal.returns-in_err-more-clause-early
returns-in_err-more-clause-early g c =
    let so-far = c.loop-role.invariant.told in
    if-is _ _ _ c.from_residual-in_err-more.ensures.1
    (ends-earlier _ _ _ _ _ _ _ _ c.in_err-more.ensures.others (c.loop-role.role, c.loop-role.bad, so-far.written, omega (arith, c.loop-role-test.true, c.roles-role-end.ensures), so-far.table, so-far.appended))

pub returns-in_err-write_all-clause-early : goal.returns-in_err-write_all-clause-early
returns-in_err-write_all-clause-early g c =
    let told = c.in_ok-more.ensures.told in
    let part = c.in_err-write_all.ensures.prefix in
    if-is _ _ _ c.from_residual-in_err-write_all.ensures.1
    (part-next _ _ _ _ _ part.0 _ _ _ _ _ _ _ (omega (arith, c.loop-role-test.true, c.roles-role-end.ensures)) c.loop-role.invariant.told told.1 told.2 c.deref.ensures.value part.1 part.2)
