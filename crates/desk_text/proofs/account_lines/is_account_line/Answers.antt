use Rattle.std.proofs.Common.{◌≡◌, ◌<◌, ◌==◌, false, List, ℕ, [], ◌∷◌, length, refl, sym, ap, ◌∙◌, arith}
use Rattle.std.proofs.lemmas.List.Splits.{length-slice_split}
use Rattle.game_core.specs.Bytes.{tab}
use Rattle.desk_text.specs.Words.{pieces}
use Rattle.desk_text.specs.AccountLines.{are_account_fields, is_account_line}
use Rattle.desk_text.proofs.account_lines.is_account_line.Goals as goal

too_many : (line number fields call last reply more : List ℕ) → pieces tab line ≡ number ∷ pieces tab fields → pieces tab fields ≡ call ∷ pieces tab last → pieces tab last ≡ reply ∷ pieces tab more → is_account_line line ≡ false
too_many line number fields call last reply more first second third =
    ap are_account_fields (first ∙ ap (λ others. number ∷ others) (second ∙ ap (λ others. call ∷ others) third)) ∙ step (pieces tab more) (omega (arith, length-slice_split (λ b. b == tab) more))
  where
    step : (others : List (List ℕ)) → 0 < length others → are_account_fields (number ∷ (call ∷ (reply ∷ others))) ≡ false
    step [] some = absurd (omega arith)
    step (field ∷ others) some = refl

pub returns-in-Some : goal.returns-in-Some
returns-in-Some c =
    let number = c.first_piece.result.0.now in
    let call = c.first_piece-2.result.0.now in
    let reply = c.first_piece-4.result.0.now in
    let fields = c.in_default-Some.fields.now in
    let last = c.in_default-Some-first_piece.last.now in
    let more = c.in-Some.field-0.now in
    let same_fields = c.in_default-Some.fields-is in
    let same_last = c.in_default-Some-first_piece.last-is in
    let first : pieces tab c.args.line.now ≡ number ∷ pieces tab fields = rw c.in_default-Some.is-1 at c.first_piece.ensures in
    let second_read = rw c.in_default-Some-first_piece.is-1 at c.first_piece-2.ensures in
    let second : pieces tab fields ≡ call ∷ pieces tab last = cc in
    let third_read = rw c.in-Some.is at c.first_piece-4.ensures in
    let third : pieces tab last ≡ reply ∷ pieces tab more = cc in
    sym (too_many c.args.line.now number fields call last reply more first second third)
