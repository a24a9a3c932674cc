use Rattle.std.proofs.Common.{◌++◌, map, take, refl, sym, ap, ◌∙◌}
use Rattle.std.proofs.Output.{has_written_append, has_written_of_eq}
use Rattle.match_log.specs.ShownTexts.{max_shown, shown_byte}
use Rattle.match_log.proofs.ShownParts.{joined}
use Rattle.match_log.proofs.shown_text.ShownDisplay.fmt.Goals as goal

pub returns-clause-writes : goal.returns-clause-writes
returns-clause-writes g c = λ plain ok.
    let one = c.in_ok-write_part.ensures plain refl in
    let two = c.in_ok-write_part-2.ensures one.plain refl in
    let three = c.in_ok-write_part-3.ensures two.plain refl in
    let four = c.write_str.ensures.writes three.plain ok in
    let parts = joined shown_byte max_shown _ _ c.args.self.now c.self.inside.parts.0.now c.self.inside.parts.1.now c.self.inside.parts.2.now c.further.result.now c.saturating_sub-left.ensures c.saturating_sub-last.ensures (sym c.self.view_is) in
    has_written_of_eq _ _ _ _ _ (parts ∙ ap (λ d. map shown_byte (take max_shown c.args.self.now) ++ d) c.further.ensures)
    (has_written_append _ _ _ _ _ _ (has_written_append _ _ _ _ _ _ (has_written_append _ _ _ _ _ _ one two) three) four)
