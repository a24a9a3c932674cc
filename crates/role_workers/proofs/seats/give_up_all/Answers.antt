use Rattle.std.proofs.Common.{◌∷◌, ◌++◌, [], take, sym, ap, ◌∙◌, subst}
use Rattle.std.proofs.lemmas.List.{take_more, take_all}
use Rattle.role_workers.specs.Internal.GivenUp.{AreGivenUp}
use Rattle.role_workers.proofs.GivenUp.{none_given_up, more_given_up}
use Rattle.role_workers.proofs.seats.give_up_all.Goals as goal

pub loop-unattended-init : goal.loop-unattended-init
loop-unattended-init g c = none_given_up g.W.Wire c.args.own.now

pub loop-unattended-preserved : goal.loop-unattended-preserved
loop-unattended-preserved g c =
    let w = g.W.Wire in
    let roles = c.args.roles.now in
    let at = c.loop-unattended.unattended-index in
    let one = c.unattended-item.result in
    let more = take_more roles at one c.loop-unattended-test.true ∙ ap (λ x. take at roles ++ x ∷ []) (sym c.unattended-item.is) in
    subst (λ rs. AreGivenUp w rs c.args.own.now c.give_up.new.own) (sym more)
    (more_given_up w (take at roles) (one ∷ []) c.args.own.now c.loop-unattended.own c.give_up.new.own c.loop-unattended.invariant c.in_ok-give_up.ensures)

pub returns : goal.returns
returns g c =
    let roles = c.args.roles.now in
    subst (λ rs. AreGivenUp g.W.Wire rs c.args.own.now c.loop-unattended.own) (take_all c.loop-unattended.unattended-index roles c.loop-unattended-test.false) c.loop-unattended.invariant
