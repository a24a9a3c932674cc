use Rattle.std.proofs.Common.{arith, [], ◌∙◌, ℕ, List, Option, Bool, true, false, inl, inr, refl}
use Rattle.std.proofs.KnownBytes.{Appends-nil, Consumes-nil}
use Rattle.std.proofs.lemmas.Result.{IfErr-weaker, err_from_is_err_and}
use Rattle.game_core.specs.Counting.{Counting}
use Rattle.game_core.specs.Play.{Rules}
use Rattle.command_faults.specs.declared.fault.Fault.TheVariants.{Memory}
use Rattle.game_commands.specs.Commands.{DeskFails}
use Rattle.game_commands.specs.Verdicts.{verdict_lines}
use Rattle.game_commands.proofs.commands.perform.Goals as goal

-- memory ran out before the command read anything
not_begun : {G S M R W : Type 0} (remaining : R → Option (List ℕ)) (contents : W → Option (List ℕ)) (is_interactive : Bool) (laws : G → Rules S M) (games : List G) (reader : Counting R) (writer : Counting W)
    → DeskFails remaining contents is_interactive laws games Memory [] reader reader writer writer
not_begun remaining contents true laws games reader writer = inl ([], [], (λ more. refl), (refl, (Appends-nil _, refl)))
not_begun remaining contents false laws games reader writer = (omega arith, refl, refl)

pub returns-in_err-alone-in-Desk-clause-fails : goal.returns-in_err-alone-in-Desk-clause-fails
returns-in_err-alone-in-Desk-clause-fails g c =
    let passed = err_from_is_err_and c.from_residual.result c.from_residual.ensures.1 in
    rw (passed.1, c.in-Desk.is, passed.2) (inr ([], Consumes-nil _, not_begun g.R.Read.remaining g.W.Write.contents c.args.request.is_interactive g.G.Game.rules _ c.args.reader.now c.args.writer.now))

pub returns-clause-fails : goal.returns-clause-fails
returns-clause-fails g c =
    rw c.in-Replay.is (IfErr-weaker c.replay_accounts.result _ _ (λ fault stops. inr stops) c.replay_accounts.ensures.fails)

pub returns-in-Ok-clause-fails : goal.returns-in-Ok-clause-fails
returns-in-Ok-clause-fails g c =
    let checked = c.in-Ok.ensures.verdicts in
    let no_fault = c.in-Ok.ensures.no_fault in
    rw c.in-VerifyLines.is (IfErr-weaker c.fail_if_any-in-Ok.result _ _
    (λ fault it. inl (
      c.in-Ok.counts.unlawful,
      it.0,
      it.1,
      (
        checked.0,
        verdict_lines c.args.request.is_json checked.1,
        record {
          read = checked.2;
          ended = checked.3;
          wrote = checked.5;
          no_read_fault = no_fault.0;
          no_write_fault = no_fault.1;
        },
        (checked.1, checked.4, refl, checked.6),
      ),
    ))
    c.fail_if_any-in-Ok.ensures.some)
