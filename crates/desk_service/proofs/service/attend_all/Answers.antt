use Rattle.std.proofs.Common.{rules, ◌≡◌, ◌<◌, length, sym, ap, ◌∙◌, subst}
use Rattle.std.specs.Prelude.{get_or}
use Rattle.std.proofs.lemmas.List.{take_at}
use Rattle.call_history.specs.Lines.{LockLineValue, numbers}
use Rattle.desk_service.proofs.ServedLines.{same_numbers}
use Rattle.desk_service.proofs.service.attend_all.Goals as goal

pub returns-then-count-gt0 : goal.returns-then-count-gt0
returns-then-count-gt0 g c =
    let before = c.args.lines.items in
    let after = c.for_each_mut.new.s in
    let value = c.as_mut_slice.ensures.value in
    let len : length after ≡ c.args.lines.len = search rules in
    let same : length after ≡ length before = search rules in
    ap numbers (take_at after _ c.args.lines.len len)
    ∙ same_numbers before after same (λ i d below.
    let changes = (c.for_each_mut.ensures i d (subst (λ l. i < length l) (sym value) below)).1 in
    let kept : changes.after_call.now.number ≡ changes.argument.now.number = search rules in
    ap (λ (l : LockLineValue). l.number) (sym changes.left)
    ∙ kept
    ∙ ap (λ (l : LockLineValue). l.number) changes.argument_is
    ∙ ap (λ l. (get_or l i d).number) value)
