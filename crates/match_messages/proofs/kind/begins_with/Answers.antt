use Rattle.std.proofs.Common.{◌<◌, ◌∙◌, arith, length, refl, sym, true≢false}
use Rattle.std.proofs.lemmas.List.{take_more_same}
use Rattle.match_messages.proofs.FirstWords.{first_of_rest, prefix_byte, prefix_fits, prefix_whole}
use Rattle.match_messages.proofs.kind.begins_with.Goals as goal

pub returns-then-len-word : goal.returns-then-len-word
returns-then-len-word c = (
  λ wrong. absurd (true≢false (sym wrong)),
  λ is. let fits = prefix_fits c.args.word.now c.args.text.now is in absurd (omega (arith, fits, c.len.ensures, c.if-len-word.true)),
)

pub bounds-left-0 : goal.bounds-left-0
bounds-left-0 c =
    let within : c.loop-place.place < length c.args.text.now = omega (arith, c.len.ensures, c.if-len-word.false, c.loop-place-test.true) in
    c.rest-left.ensures.some within

pub returns-then-left-byte : goal.returns-then-left-byte
returns-then-left-byte c =
    let text = c.args.text.now in
    let place = c.loop-place.place in
    let within : place < length text = omega (arith, c.len.ensures, c.if-len-word.false, c.loop-place-test.true) in
    let front = c.rest-left.ensures.front in
    let first = first_of_rest text c.rest-left.result.now front.0 place front.1 within (c.rest-left.ensures.some within) in (
      λ wrong. absurd (true≢false (sym wrong)),
      λ is. absurd (c.if-left-byte.true (first ∙ sym (prefix_byte c.args.word.now text place is c.loop-place-test.true))),
    )

pub loop-place-preserved : goal.loop-place-preserved
loop-place-preserved c =
    let text = c.args.text.now in
    let place = c.loop-place.place in
    let within : place < length text = omega (arith, c.len.ensures, c.if-len-word.false, c.loop-place-test.true) in
    let front = c.rest-left.ensures.front in
    let first = first_of_rest text c.rest-left.result.now front.0 place front.1 within (c.rest-left.ensures.some within) in
    take_more_same c.args.word.now text place 0 c.loop-place-test.true within c.loop-place.invariant (sym c.if-left-byte.false ∙ first)

pub returns : goal.returns
returns c = (λ _. prefix_whole c.args.word.now c.args.text.now c.loop-place.place (omega (arith, c.loop-place-test.false)) c.loop-place.invariant, λ _. refl)
