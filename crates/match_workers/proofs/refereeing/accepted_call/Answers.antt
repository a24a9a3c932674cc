use Rattle.std.proofs.Common.{◌≡◌, ◌≢◌, ◌∙◌, Option, Some, None, refl, sym, ap}
use Rattle.desk_calls.specs.declared.call.Refusal.{Refusal}
use Rattle.desk_calls.specs.declared.call.Reply.{Reply}
use Rattle.desk_calls.specs.declared.call.Reply.TheVariants.{Opened, Refused}
use Rattle.match_desk.specs.Open.{open_refusal}
use Rattle.match_desk.specs.Steps.{reply, refused_or}
use Rattle.match_workers.proofs.refereeing.accepted_call.Goals as goal

reason_is : (refusal : Option Refusal) (reason : Refusal) → Refused reason ≡ refused_or refusal Opened → Some reason ≡ refusal
reason_is None reason is = absurd cc
reason_is (Some r) reason is = let same : reason ≡ r = cc in ap Some same

-- any other reply shows that the manager does not refuse the call
none_is : (refusal : Option Refusal) (r : Reply) → r ≡ refused_or refusal Opened → ((reason : Refusal) → r ≢ Refused reason) → None ≡ refusal
none_is None r is other = refl
none_is (Some reason) r is other = absurd (other reason is)

pub returns-in-Refused-clause-refused : goal.returns-in-Refused-clause-refused
returns-in-Refused-clause-refused g c = λ _. reason_is (open_refusal g.G.Game.rules c.args.manager.now 0 c.args.setup) c.in-Refused.reason
    (sym c.in-Refused.is ∙ c.in_ok-reason.ensures.reply ∙ ap (reply g.G.Game.rules c.args.manager.now) c.open_call-call.ensures)

pub returns-in_default-clause-opens : goal.returns-in_default-clause-opens
returns-in_default-clause-opens g c = sym (none_is (open_refusal g.G.Game.rules c.args.manager.now 0 c.args.setup) c.in_ok-reason.field-0
    (c.in_ok-reason.ensures.reply ∙ ap (reply g.G.Game.rules c.args.manager.now) c.open_call-call.ensures) c.in_default.not-Refused)
