use Rattle.std.proofs.Common.{◌≡◌, true, refl, subst, ◌∙◌, rules}
use Rattle.std.specs.Prelude.{All}
use Rattle.std.proofs.lemmas.List.{take_all}
use Rattle.std.proofs.lemmas.List.Elements.{All-more}
use Rattle.record_reading.specs.RecordParts.{IsErrorText}
use Rattle.record_reading.proofs.error_texts.are_error_texts.Goals as goal

pub loop-text-preserved : goal.loop-text-preserved
loop-text-preserved c =
    let yes : c.in_ok-is_error_text.field-0 ≡ true = search rules in
    All-more IsErrorText c.args.texts.now c.loop-text.text-index c.text-item.result c.loop-text-test.true c.loop-text.invariant
    (subst IsErrorText (c.as_slice.ensures ∙ c.text-item.is) (c.in_ok-is_error_text.ensures.0 yes))

pub returns : goal.returns
returns c = (λ _. subst (λ ts. All IsErrorText ts) (take_all c.loop-text.text-index c.args.texts.now c.loop-text-test.false) c.loop-text.invariant, λ _. refl)
