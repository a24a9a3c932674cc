use Rattle.std.proofs.Common.{◌∷◌, ◌+◌, length, ap, sym, ◌∙◌, rules}
use Rattle.std.specs.Str.Lines.{lines}
use Rattle.std.proofs.lemmas.List.{take_rest, drop_all}
use Rattle.desk_text.proofs.LineLemmas.{lines_cut, lines_whole}
use Rattle.desk_text.proofs.lines.first_line.Goals as goal

pub returns-in-None-clause-cut : goal.returns-in-None-clause-cut
returns-in-None-clause-cut c =
    let text = c.args.text.now in
    lines_whole text c.requires (sym c.in-None.ensures)
    ∙ ap (λ l. text ∷ lines l) (sym (take_rest text (length text) ∙ drop_all (length text) text (search rules)))

pub returns-in-Some-clause-cut : goal.returns-in-Some-clause-cut
returns-in-Some-clause-cut c =
    let text = c.args.text.now in
    let cut = lines_cut text c.in-Some.end (sym c.in-Some.ensures) in
    let rest = take_rest text (c.in-Some.end + 1) in
    let line = c.without_return.ensures in
    cc
