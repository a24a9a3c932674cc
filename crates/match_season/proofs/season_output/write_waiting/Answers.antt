use Rattle.std.proofs.Common.{◌≡◌, ◌-◌, ◌+◌, ◌∙◌, ℕ, Option, Some, None, HoldsAt, true, false, get_or, is_some, length, ◌∷◌, [], refl, sym, ap, subst, arith}
use Rattle.std.proofs.lemmas.List.{get_or-set_other}
use Rattle.std.proofs.lemmas.List.Elements.{AllWithin-more, at_read}
use Rattle.std.proofs.lemmas.Result.{err_from_is_err_and}
use Rattle.match_season.specs.Seasons.{settled_on}
use Rattle.match_season.proofs.WrittenLines.{more-none, more-settled, more-to_part, more-weaker, rises-higher, rises-lower, rises-trans}
use Rattle.match_season.proofs.Placed.{placed-set, settled-next, settled-none}
use Rattle.match_season.proofs.season_output.write_waiting.Goals as goal

pub loop-place-init : goal.loop-place-init
loop-place-init g c = record {
  bound = omega arith;
  ahead = λ k d le. refl;
  over = λ k d low high. absurd (omega (arith, low, high));
  placed = λ placed. placed;
  settled = λ _. settled-none c.args.written.now.is_settled.items c.args.next (c.args.next - c.args.next) (omega arith);
  written = more-none _ _ _ _ (λ placed. omega arith);
  faults = refl;
}

pub loop-place-preserved : goal.loop-place-preserved
loop-place-preserved g c =
    let before = c.loop-place.invariant in
    let place = c.loop-place.place in
    let P : Option _ → Type 0 = λ it. is_some it ≡ true in
    let it = c.index-waiting-place in
    let some : P it.result = ap (λ (o : Option _). is_some o) (it.is ∙ (sym c.take.ensures.value ∙ c.in-Some.is)) in
    let here : HoldsAt P c.loop-place.waiting place = at_read c.loop-place.waiting P place it.result (omega arith) it.is some in
    let is : it.result ≡ Some c.in-Some.over = it.is ∙ (sym c.take.ensures.value ∙ c.in-Some.is) in
    let at : get_or c.loop-place.waiting place None ≡ Some c.in-Some.over = at_read c.loop-place.waiting (λ o. o ≡ Some c.in-Some.over) place it.result (omega arith) it.is is None in
    record {
      bound = omega arith;
      ahead = λ k d past. get_or-set_other c.loop-place.waiting place k _ d (λ e. absurd (omega (arith, past, e))) ∙ before.ahead k d (omega (arith, past));
      over = AllWithin-more P c.args.waiting.now c.args.next place before.over (λ d. subst P (before.ahead place d (omega arith)) (here d));
      placed = λ placed. placed-set _ c.loop-place.waiting place _ (λ over found. cc (sym c.take.ensures.after ∙ found)) (before.placed placed);
      settled = λ placed.
          settled-next _ _ _ c.args.next place _ (omega arith) (before.placed placed place c.in-Some.over at) (before.settled placed) c.in_ok-write_outcome.ensures.settled.settled;
      written = more-settled _ _ _ _ _ _ _ _ _ _ _
          (λ xs ys first second placed.
          let here : c.in-Some.over.place ≡ place = before.placed placed place c.in-Some.over at in
          rises-trans c.args.next xs (c.args.next + (place - c.args.next)) ys _ (first placed)
          (rises-higher _ ys (c.in-Some.over.place + 1) _ (omega (arith, here)) (rises-lower _ c.in-Some.over.place ys _ (omega (arith, here)) second)))
          before.written c.in_ok-write_outcome.ensures.written c.in_ok-write_outcome.ensures.settled;
      faults = c.in_ok-write_outcome.ensures.faults ∙ before.faults;
    }

pub returns-in_err-write_outcome-clause-at_fault : goal.returns-in_err-write_outcome-clause-at_fault
returns-in_err-write_outcome-clause-at_fault g c =
    let before = c.loop-place.invariant in
    let place = c.loop-place.place in
    let it = c.index-waiting-place in
    let over = c.in-Some.over in
    let is : it.result ≡ Some over = it.is ∙ (sym c.take.ensures.value ∙ c.in-Some.is) in
    let at : get_or c.loop-place.waiting place None ≡ Some over = at_read c.loop-place.waiting (λ o. o ≡ Some over) place it.result (omega arith) it.is is None in
    let failed = c.in_err-write_outcome.ensures.at_fault in
    let p = err_from_is_err_and c.from_residual.result c.from_residual.ensures.1 in
    rw (p.1, p.2) (
      failed.0,
      more-to_part _ _ _ _ _ _ _ _ over.place
          (λ xs first placed.
          let here : over.place ≡ place = before.placed placed place over at in
          rises-trans c.args.next xs (c.args.next + (place - c.args.next)) (over.place ∷ []) _ (first placed) (omega (arith, here), omega (arith, here)))
          before.written failed.1 failed.2,
    )

pub returns-in_default : goal.returns-in_default
returns-in_default g c =
    let before = c.loop-place.invariant in
    let place = c.loop-place.place in
    let P : Option _ → Type 0 = λ it. is_some it ≡ false in
    let it = c.index-waiting-place in
    let none : P it.result = ap (λ (o : Option _). is_some o) (it.is ∙ (sym c.take.ensures.value ∙ c.in_default.is)) in
    let here : HoldsAt P c.loop-place.waiting place = at_read c.loop-place.waiting P place it.result (omega arith) it.is none in
    record {
      written = before.written;
      place = (omega arith, λ within. omega (arith, within));
      over = before.over;
      placed = λ placed. placed-set _ c.loop-place.waiting place _ (λ over found. cc (sym c.take.ensures.after ∙ found)) (before.placed placed);
      settled = before.settled;
      stops = λ _ d. subst P (before.ahead place d (omega arith)) (here d);
      at_fault = tt;
      faults = before.faults;
    }

pub returns : goal.returns
returns g c =
    let before = c.loop-place.invariant in
    let all : c.loop-place.place - c.args.next ≡ length c.args.waiting.now - c.args.next = omega (arith, c.loop-place-test.false, before.bound) in
    record {
      written = more-weaker _ _ _ _ _ _ _ (λ xs rises placed. rises-higher c.args.next xs (c.args.next + (c.loop-place.place - c.args.next)) _ (omega (arith, before.bound)) (rises placed)) before.written;
      place = (omega arith, λ within. omega (arith, within));
      over = λ k d low high. before.over k d low (omega (arith, high, c.loop-place-test.false));
      stops = λ lt. absurd (omega (arith, lt));
      placed = before.placed;
      settled = λ placed. before.settled placed ∙ ap (λ (n : ℕ). settled_on c.args.written.now.is_settled.items c.args.next n) all;
      at_fault = tt;
      faults = before.faults;
    }
