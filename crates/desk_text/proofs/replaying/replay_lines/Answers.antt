use Rattle.std.proofs.Common.{◌≡◌, ◌≢◌, ◌∷◌, length, Err, sym, subst, arith, rules}
use Rattle.std.specs.Prelude.{IfErr}
use Rattle.std.specs.Str.Lines.{lines}
use Rattle.desk_text.specs.Replaying.{IsFirstFault}
use Rattle.desk_text.specs.declared.replaying.ReplayFault.TheVariants.{Memory}
use Rattle.desk_text.proofs.Accounts.{IsAccountSoFar, account_begins, account_ends, account_goes_on, fault_comes, no_lines}
use Rattle.desk_text.proofs.replaying.replay_lines.Goals as goal

pub loop-rest-init : goal.loop-rest-init
loop-rest-init g c = record { so_far = account_begins g.O.Object.reply g.O.Object.after c.args.object.now (lines c.args.input.now); small = omega arith }

pub loop-rest-preserved : goal.loop-rest-preserved
loop-rest-preserved g c =
    let reply = g.O.Object.reply in
    let after = g.O.Object.after in
    let start = c.args.object.now in
    let all = lines c.args.input.now in
    let rest = lines c.first_line.result.1.now in
    let line = c.first_line.result.0.now in
    let before : IsAccountSoFar reply after start all (line ∷ rest) c.loop-rest.object c.loop-rest.calls =
    subst (λ x. IsAccountSoFar reply after start all x c.loop-rest.object c.loop-rest.calls) c.first_line.ensures.cut c.loop-rest.invariant.so_far in
    let made = c.in_ok-replay_entry.ensures.ok in
    record {
      so_far = account_goes_on reply after start all rest line c.loop-rest.object c.replay_entry.new.object c.loop-rest.calls made.0 before made.1 made.2 made.3 made.4;
      small = omega (arith, c.loop-rest.invariant.small, c.first_line.ensures.shorter);
    }

pub returns-in_err-replay_entry-clause-fault : goal.returns-in_err-replay_entry-clause-fault
returns-in_err-replay_entry-clause-fault g c =
    let reply = g.O.Object.reply in
    let after = g.O.Object.after in
    let start = c.args.object.now in
    let all = lines c.args.input.now in
    let rest = lines c.first_line.result.1.now in
    let line = c.first_line.result.0.now in
    let before : IsAccountSoFar reply after start all (line ∷ rest) c.loop-rest.object c.loop-rest.calls =
    subst (λ x. IsAccountSoFar reply after start all x c.loop-rest.object c.loop-rest.calls) c.first_line.ensures.cut c.loop-rest.invariant.so_far in
    let refused = c.in_err-replay_entry.ensures.refused in
    let same : c.from_residual.result ≡ Err c.in_err-replay_entry.field-0.0 = search rules in
    subst (λ r. IfErr r (λ fault. fault ≢ Memory → IsFirstFault reply after start all fault)) (sym same)
    (λ other. fault_comes reply after start all rest line c.loop-rest.object c.loop-rest.calls c.in_err-replay_entry.field-0.0 before refused)

pub returns-clause-ok : goal.returns-clause-ok
returns-clause-ok g c =
    let empty : length c.loop-rest.rest.now ≡ 0 = search rules in
    let none = no_lines c.loop-rest.rest.now empty in
    account_ends g.O.Object.reply g.O.Object.after c.args.object.now (lines c.args.input.now) c.loop-rest.object c.loop-rest.calls
    (subst (λ x. IsAccountSoFar g.O.Object.reply g.O.Object.after c.args.object.now (lines c.args.input.now) x c.loop-rest.object c.loop-rest.calls) none c.loop-rest.invariant.so_far)
