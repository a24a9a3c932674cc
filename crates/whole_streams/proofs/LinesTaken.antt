-- Taking the lines of a text one after another.
use Rattle.std.proofs.Common.{◌≡◌, List, [], ◌∷◌, ◌++◌, sym, ap, ◌∙◌}
use Rattle.std.proofs.lemmas.List.{append_assoc}
use Rattle.std.specs.Str.Lines.{lines}
use Rattle.whole_streams.specs.Laws.{LastLineIsTaken, NextLineIsTaken}
use Rattle.whole_streams.proofs.LineLemmas.{lines_begin, lines_last}

pub next_is_taken : NextLineIsTaken
next_is_taken text first left given line rest begins next more =
    ap lines (append_assoc text given more)
    ∙ begins (given ++ more)
    ∙ ap (λ l. first ++ lines l) (sym (append_assoc left given more))
    ∙ ap (λ l. first ++ l) (lines_begin (left ++ given) line rest more next)
    ∙ sym (append_assoc first (line ∷ []) (lines (rest ++ more)))

pub last_is_taken : LastLineIsTaken
last_is_taken text first left given line begins some is feedless =
    begins given ∙ ap (λ l. first ++ l) (lines_last (left ++ given) some feedless ∙ ap (λ l. l ∷ []) (sym is))
