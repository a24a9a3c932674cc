use Rattle.std.proofs.Common.{◌+◌, ◌≤◌, ◌∙◌, ℕ, List, length, refl, ap, subst, arith}
use Rattle.std.specs.List.{AllZip}
use Rattle.std.proofs.lemmas.List.{length_push, take_all}
use Rattle.match_plans.specs.declared.addresses.PlayerAddress.{PlayerAddress}
use Rattle.match_plans.specs.declared.plan.MatchPlan.{MatchPlan}
use Rattle.match_season.specs.Queues.{AreNumbersOf}
use Rattle.match_season.proofs.Numbering.{all-more}
use Rattle.match_season.proofs.Waiting.{in-order-more}
use Rattle.match_season.proofs.queue.waiting_matches.Goals as goal

pub loop-place-preserved : goal.loop-place-preserved
loop-place-preserved c =
    let waiting = c.loop-place.waiting.items in
    let before = c.loop-place.invariant in
    let is = c.in_ok-push_back.ensures.items in
    let its = c.in_ok-players.ensures in
    let plan = c.index-plans-place in
    let numbers = subst (λ (players : List PlayerAddress). AreNumbersOf c.numbers.new.addresses.keys players c.in_ok-players.players.items) (c.deref.ensures.value ∙ ap (λ (it : MatchPlan). it.players.items) plan.is) its.numbers in
    record {
      each = ap length is ∙ (length_push waiting _ ∙ ap (λ (n : ℕ). n + 1) before.each);
      in_order = in-order-more waiting _ _ c.loop-place.place is before.each refl before.in_order;
      numbered = all-more _ _ c.args.plans.now c.loop-place.place plan.result waiting _ _ c.loop-place-test.true is its.kept before.numbered numbers;
    }

pub returns-clause-in_order : goal.returns-clause-in_order
returns-clause-in_order c place d lt = c.loop-place.invariant.in_order place d (omega (arith, lt, c.loop-place-test.false))

pub returns-clause-numbered : goal.returns-clause-numbered
returns-clause-numbered c =
    let plans = c.args.plans.now in
    let past : length plans ≤ c.loop-place.place = omega (arith, c.loop-place-test.false) in
    subst (λ (them : List MatchPlan). AllZip (λ plan waiting_match. AreNumbersOf c.loop-place.addresses.keys plan.players.items waiting_match.players.items) them c.loop-place.waiting.items) (take_all c.loop-place.place plans past) c.loop-place.invariant.numbered
