use Rattle.match_book.proofs.AnswerReadings.{readings_are_folded}
use Rattle.match_book.proofs.laws.readings_are_folded.Goals as goal

pub returns : goal.returns
returns c = readings_are_folded c.reading_is_proper.ensures c.reading_under_double.ensures
