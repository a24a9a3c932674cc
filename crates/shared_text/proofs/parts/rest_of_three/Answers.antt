use Rattle.std.proofs.Common.{◌≡◌, ◌+◌, ◌-◌, ◌++◌, length, drop, sym, ap, ◌∙◌, arith}
use Rattle.std.proofs.lemmas.List.{take_rest, drop-append-le}
use Rattle.std.proofs.Math.Seq.{drop-append-add}
use Rattle.shared_text.proofs.parts.rest_of_three.Goals as goal

pub returns-then-place-first-clause-front : goal.returns-then-place-first-clause-front
returns-then-place-first-clause-front c =
    let first = c.args.first.now in
    let others = c.args.second.now ++ c.args.third.now in
    (others, ap (λ l. l ++ others) (take_rest first c.args.place) ∙ sym (drop-append-le c.args.place first others (omega arith)))

pub returns-else-place-first-clause-front : goal.returns-else-place-first-clause-front
returns-else-place-first-clause-front c =
    let first = c.args.first.now in
    let others = c.args.second.now ++ c.args.third.now in
    let past = c.args.place - length first in
    let place : length first + past ≡ c.args.place = omega arith in
    let front = c.rest_of.ensures.front in
    (front.0, front.1 ∙ sym (drop-append-add first others past) ∙ ap (λ n. drop n (first ++ others)) place)
