use Rattle.std.proofs.Common.{◌≡◌, ◌+◌, ◌-◌, [], ◌++◌, length, drop, append-nil, sym, ap, ◌∙◌, arith}
use Rattle.std.proofs.lemmas.List.{take_rest, drop-append-le}
use Rattle.std.proofs.Math.Seq.{drop-append-add}
use Rattle.shared_text.proofs.parts.rest_of.Goals as goal

pub returns-then-place-first-clause-front : goal.returns-then-place-first-clause-front
returns-then-place-first-clause-front c =
    let first = c.args.first.now in
    let second = c.args.second.now in
    (second, ap (λ l. l ++ second) (take_rest first c.args.place) ∙ sym (drop-append-le c.args.place first second (omega arith)))

pub returns-else-place-first-clause-front : goal.returns-else-place-first-clause-front
returns-else-place-first-clause-front c =
    let first = c.args.first.now in
    let second = c.args.second.now in
    let past = c.args.place - length first in
    let place : length first + past ≡ c.args.place = omega arith in
    ([], append-nil _ ∙ take_rest second past ∙ sym (drop-append-add first second past) ∙ ap (λ n. drop n (first ++ second)) place)
