use Rattle.std.proofs.Common.{◌≡◌, ◌++◌, List, ℕ, ap, ◌∙◌, append_assoc}
use Rattle.std.specs.Prelude.{codes, OnOk, Result, Ok, Err}
use Rattle.std.specs.Fmt.{decimal}
use Rattle.http_exchange.specs.HttpText.{field, described_body}
use Rattle.http_exchange.proofs.http_text.push_description.Goals as goal

-- the text is built part by part, if there is memory for the last part
joined : {T E : Type 0} (r : Result T E) (t x1 x2 x3 f1 f2 f3 body : List ℕ) → x1 ≡ t ++ f1 → x2 ≡ x1 ++ f2 → OnOk r (x3 ≡ x2 ++ f3) → OnOk r (x3 ++ body ≡ t ++ (f1 ++ f2 ++ f3 ++ body))
joined (Ok x) t x1 x2 x3 f1 f2 f3 body e1 e2 e3 =
    let parts : x3 ≡ ((t ++ f1) ++ f2) ++ f3 = cc in
    ap (λ x. x ++ body) parts ∙ simp append_assoc
joined (Err x) t x1 x2 x3 f1 f2 f3 body e1 e2 e3 = tt

pub returns : goal.returns
unfolding described_body
returns c =
    let size = c.as_bytes.ensures.value ∙ c.in_ok-length.ensures.ok ∙ ap decimal c.len.ensures in
    joined c.push_line.result c.args.text.now.items c.push_field.new.text.items c.push_field-2.new.text.items c.push_line.new.text.items _ _ _ c.args.body.now
    c.in_ok-push_field.ensures (c.in_ok-push_field-2.ensures ∙ ap (λ d. c.push_field.new.text.items ++ field (codes "Content-Length") d) size) c.push_line.ensures
