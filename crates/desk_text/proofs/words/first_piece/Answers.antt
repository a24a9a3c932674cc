use Rattle.std.proofs.Common.{◌+◌, ◌==◌, sym}
use Rattle.std.proofs.lemmas.List.{take_rest}
use Rattle.desk_text.proofs.Pieces.{pieces_cut, pieces_whole}
use Rattle.desk_text.proofs.words.first_piece.Goals as goal

pub returns-in-Some : goal.returns-in-Some
returns-in-Some c =
    let text = c.args.text.now in
    let cut = pieces_cut (λ b. b == c.args.separator) text c.in-Some.end (sym c.in-Some.ensures) in
    let rest = take_rest text (c.in-Some.end + 1) in
    cc

pub returns-in-None : goal.returns-in-None
returns-in-None c = pieces_whole (λ b. b == c.args.separator) c.args.text.now (sym c.in-None.ensures)
