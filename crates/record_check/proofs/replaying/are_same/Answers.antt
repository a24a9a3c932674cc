use Rattle.std.proofs.Common.{◌≡◌, ◌<◌, ◌≤◌, ◌∙◌, ◌++◌, ◌∷◌, [], ap, sym, arith, refl, length, map, take, get_or}
use Rattle.std.specs.Cow.{cow_slice_items}
use Rattle.std.specs.Str.{bytes_eq}
use Rattle.std.proofs.lemmas.Bool.{true≢false, not-false, not-true}
use Rattle.std.proofs.lemmas.List.{take_all, take_more, map-append, get_or-map}
use Rattle.std.proofs.lemmas.Slice.Eq.{bytes_eq-Decides}
use Rattle.record_check.proofs.replaying.are_same.Goals as goal

pub returns-then-ne : goal.returns-then-ne
returns-then-ne c =
    let texts = c.args.texts.now in
    let place = c.loop-place.place in
    let text = c.index-texts-place.result in
    let other = c.index-others-place.result in
    let mine = c.as_slice.result.now in
    let others = c.as_slice-in-loop-place.result.now in
    let differ = not-true (bytes_eq mine others) (sym c.if-ne.ensures) in (
      λ wrong. absurd (true≢false (sym wrong)),
      λ same.
          let there : cow_slice_items text ≡ other =
          ap cow_slice_items c.index-texts-place.is ∙ sym (get_or-map cow_slice_items texts place text other c.loop-place-test.true) ∙ ap (λ ts. get_or ts place other) same ∙ sym c.index-others-place.is in
          absurd (true≢false (sym ((bytes_eq-Decides mine others).1 (c.as_slice.ensures.value ∙ there ∙ sym c.as_slice-in-loop-place.ensures)) ∙ differ)),
    )

pub loop-place-preserved : goal.loop-place-preserved
loop-place-preserved c =
    let texts = c.args.texts.now in
    let others = c.args.others.now in
    let place = c.loop-place.place in
    let text = c.index-texts-place.result in
    let other = c.index-others-place.result in
    let within : place < length others = omega (arith, c.loop-place-test.true, c.if-texts-others.false) in
    let equal = (bytes_eq-Decides c.as_slice.result.now c.as_slice-in-loop-place.result.now).0 (not-false (bytes_eq c.as_slice.result.now c.as_slice-in-loop-place.result.now) (sym c.if-ne.ensures)) in
    let here : cow_slice_items (get_or texts place text) ≡ get_or others place other =
    ap cow_slice_items (sym c.index-texts-place.is) ∙ sym c.as_slice.ensures.value ∙ equal ∙ c.as_slice-in-loop-place.ensures ∙ c.index-others-place.is in
    ap (map cow_slice_items) (take_more texts place text c.loop-place-test.true)
    ∙ map-append cow_slice_items (take place texts) (get_or texts place text ∷ [])
    ∙ ap (λ t. map cow_slice_items (take place texts) ++ t ∷ []) here
    ∙ ap (λ ts. ts ++ get_or others place other ∷ []) c.loop-place.invariant
    ∙ sym (take_more others place other within)

pub returns : goal.returns
returns c =
    let texts = c.args.texts.now in
    let others = c.args.others.now in
    let place = c.loop-place.place in
    let past : length texts ≤ place = omega (arith, c.loop-place-test.false) in
    let past_others : length others ≤ place = omega (arith, c.loop-place-test.false, c.if-texts-others.false) in
    (λ _. ap (map cow_slice_items) (sym (take_all place texts past)) ∙ c.loop-place.invariant ∙ take_all place others past_others, λ _. refl)
