use Rattle.std.proofs.Common.{◌≡◌, [], ap, ◌∙◌}
use Rattle.std.specs.Prelude.{option_copied, unwrap_or}
use Rattle.desk_text.specs.Words.{words_behind}
use Rattle.desk_text.proofs.Submits.{submitted, or_text}
use Rattle.desk_text.proofs.script_lines.submit_call.Goals as goal

pub returns-in_ok-text-in-Ok : goal.returns-in_ok-text-in-Ok
returns-in_ok-text-in-Ok c =
    let text = c.in-Ok.text in
    let said : c.in_ok-text-in-Ok.text ≡ unwrap_or (option_copied text) [] = c.in_ok-text-in-Ok.ensures ∙ ap (λ b. b.now) c.unwrap_or.ensures ∙ or_text text _ in
    rw c.in_ok-id-in-Ok.ensures (submitted c.args.grammar c.in-Ok.id.now c.in-Ok.role c.in-Ok.round (option_copied text) c.in_ok-text-in-Ok.text (words_behind (option_copied c.args.rest)) c.in-Ok.ensures said)
