use Rattle.std.proofs.Common.{rules, ◌≡◌, ◌≢◌, subst}
use Rattle.std.specs.Str.Lines.{lines}
use Rattle.match_desk.specs.Steps.{reply, after}
use Rattle.desk_text.specs.Account.{no_matches}
use Rattle.desk_text.specs.Account.{IsAccount}
use Rattle.desk_text.specs.Replaying.{IsFirstFault}
use Rattle.desk_text.specs.declared.replaying.ReplayFault.TheVariants.{Memory}
use Rattle.desk_text.proofs.ReadHistories.{first_fault_refuses}
use Rattle.desk_text.proofs.replaying.replay.Goals as goal

pub returns-in-Ok-clause-ok : goal.returns-in-Ok-clause-ok
returns-in-Ok-clause-ok g c =
    let start : c.in_ok-manager.manager ≡ no_matches c.args.games.items = search rules in
    subst (λ m. IsAccount (reply g.G.Game.rules) (after g.G.Game.rules) m (lines c.args.input.now) c.replay_lines.new.object c.in-Ok.calls) start c.in-Ok.ensures.ok

pub returns-in-Err-clause-fault : goal.returns-in-Err-clause-fault
returns-in-Err-clause-fault g c =
    let start : c.in_ok-manager.manager ≡ no_matches c.args.games.items = search rules in
    subst (λ m. c.in-Err.fault ≢ Memory → IsFirstFault (reply g.G.Game.rules) (after g.G.Game.rules) m (lines c.args.input.now) c.in-Err.fault) start c.in-Err.ensures.fault

pub returns-in-Err-clause-refused : goal.returns-in-Err-clause-refused
returns-in-Err-clause-refused g c =
    λ other. first_fault_refuses (reply g.G.Game.rules) (after g.G.Game.rules) (no_matches c.args.games.items) (lines c.args.input.now) c.in-Err.fault other (returns-in-Err-clause-fault g c other)
