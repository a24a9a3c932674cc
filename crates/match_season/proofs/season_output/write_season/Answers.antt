use Rattle.std.proofs.Common.{ℕ, ◌≡◌, ◌≤◌, ◌-◌, ◌+◌, ◌∙◌, true, is_some, ap, length, refl, sym, subst, arith}
use Rattle.std.proofs.lemmas.Bool.{false≢true}
use Rattle.std.proofs.lemmas.List.{length-replicate, take_at}
use Rattle.std.proofs.lemmas.Result.{err_from_is_err_and}
use Rattle.match_season.specs.Seasons.{ArePlaced, HasAll, settled_on}
use Rattle.match_season.proofs.Placed.{placed-none, settled-trans}
use Rattle.match_season.proofs.WrittenLines.{more-none, more-then_part, more-trans, more-weaker, rises-higher, rises-lower, rises-trans, up_to-write_fault}
use Rattle.match_season.proofs.season_output.write_season.Goals as goal
use Rattle.match_season.proofs.season_output.write_season.Goals.{in-None, in-Some+in_default}

pub loop-init : goal.loop-init
loop-init g c =
    let long = ap length c.in_ok-waiting.ensures ∙ length-replicate _ _ in
    record { within = omega arith; places = omega (arith, long, c.in_ok-waiting.waiting.ok.0); placed = placed-none _ _ _ c.in_ok-waiting.ensures; settled = λ asked. refl; written = more-none _ _ _ _ (λ asked. omega arith); faults = refl }

pub loop-preserved : goal.loop-preserved
loop-preserved g c =
    let next = c.loop.next in
    let past = c.in_ok-next.ensures.place.0 in
    let onward = c.in_ok-next.ensures.place.1 in
    let before = c.loop.invariant in
    let first : ArePlaced _ c.deref_mut.result.now = subst (ArePlaced (λ over. over.place)) (sym c.deref_mut.ensures.value) before.placed in
    let same : c.deref_mut-in-loop.result.now ≡ c.keep.new.waiting = grind (arith, take_at) in
    let second : ArePlaced _ c.deref_mut-in-loop.result.now = subst (ArePlaced (λ over. over.place)) (sym same) (c.keep.ensures.placed first) in
    let from = c.first_to_write-first.result in
    let le : from ≡ next → next ≤ c.in_ok-next.next = λ start. omega (arith, onward, start) in
    record {
      within = omega (arith, past);
      places = omega arith;
      placed = subst (ArePlaced (λ over. over.place)) (sym (take_at c.write_waiting.new.waiting _ _ (omega arith))) (c.in_ok-next.ensures.placed second);
      settled = λ asked.
          let start : from ≡ next = c.first_to_write-first.ensures asked in
          settled-trans c.args.written.now.is_settled.items c.loop.written.is_settled.items c.write_waiting.new.written.is_settled.items next c.in_ok-next.next (le start) (before.settled asked)
          (subst (λ (n : ℕ). c.write_waiting.new.written.is_settled.items ≡ settled_on c.loop.written.is_settled.items n (c.in_ok-next.next - n)) start (c.in_ok-next.ensures.settled second));
      written = more-trans _ _ _ _ _ _ _ _ _ _
          (λ xs ys first then asked.
          let start : from ≡ next = c.first_to_write-first.ensures asked in
          rises-trans 0 xs next ys _ (first asked) (rises-higher next ys (from + (c.in_ok-next.next - from)) c.in_ok-next.next (omega (arith, le start, start)) (rises-lower next from ys _ (omega (arith, start)) (then second))))
          c.loop.invariant.written c.in_ok-next.ensures.written;
      faults = c.in_ok-next.ensures.faults ∙ c.loop.invariant.faults;
    }

pub returns-in_err-next-clause-at_fault : goal.returns-in_err-next-clause-at_fault
returns-in_err-next-clause-at_fault g c =
    let next = c.loop.next in
    let before = c.loop.invariant in
    let first : ArePlaced _ c.deref_mut.result.now = subst (ArePlaced (λ over. over.place)) (sym c.deref_mut.ensures.value) before.placed in
    let same : c.deref_mut-in-loop.result.now ≡ c.keep.new.waiting = grind (arith, take_at) in
    let second : ArePlaced _ c.deref_mut-in-loop.result.now = subst (ArePlaced (λ over. over.place)) (sym same) (c.keep.ensures.placed first) in
    let from = c.first_to_write-first.result in
    let failed = c.in_err-next.ensures.at_fault in
    let p = err_from_is_err_and c.from_residual-in_err-next.result c.from_residual-in_err-next.ensures.1 in
    rw (p.1, p.2) (up_to-write_fault _ _ _ _ _ _ _ failed.0
    (more-then_part _ _ _ _ _ _ _ _ _
    (λ xs ys first then asked.
    let start : from ≡ next = c.first_to_write-first.ensures asked in
    rises-trans 0 xs next ys _ (first asked) (rises-higher next ys _ _ (omega arith) (rises-lower next from ys _ (omega (arith, start)) (then second))))
    before.written failed.1))

pub returns-clause-all : goal.returns-clause-all
returns-clause-all g c =
    elim c.match-next.branch [
      | in-None w ↦ absurd (false≢true (subst (λ r. is_some r ≡ true) w.in-None.is c.next.ensures.steps))
      | in-Some+in_default w ↦ subst (λ r. HasAll r.is_closed c.loop.written) (sym w.results-is) w.in_default.ensures
    ]

pub returns-clause-settled : goal.returns-clause-settled
returns-clause-settled g c asked = (c.loop.next, c.loop.invariant.settled asked)

pub returns-clause-written : goal.returns-clause-written
returns-clause-written g c = more-weaker _ _ _ _ _ _ _ (λ xs rises asked. rises-higher 0 xs c.loop.next _ (omega (arith, c.loop.invariant.within, c.args.written.now.is_settled.ok.0)) (rises asked)) c.loop.invariant.written
