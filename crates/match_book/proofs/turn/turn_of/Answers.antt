use Rattle.std.proofs.Common.{◌∙◌, ap, sym, ◌++◌}
use Rattle.std.specs.Prelude.{map, option_to_list}
use Rattle.match_book.proofs.TurnParts.{map_present-push}
use Rattle.match_book.proofs.turn.turn_of.Goals as goal

pub loop-part-preserved : goal.loop-part-preserved
loop-part-preserved g c = record {
  moves = c.in_ok-push_part.ensures.moves ∙ (ap (λ l. l ++ map (λ j. j.taken) (option_to_list c.in-Some.part)) c.loop-part.invariant.moves ∙ sym (map_present-push (λ j. j.taken) c.loop-part.yielded c.in-Some.part));
  errors = c.in_ok-push_part.ensures.errors ∙ (ap (λ l. l ++ map (λ j. j.error) (option_to_list c.in-Some.part)) c.loop-part.invariant.errors ∙ sym (map_present-push (λ j. j.error) c.loop-part.yielded c.in-Some.part));
}
