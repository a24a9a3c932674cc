-- Laws about each match of a lawful game.
use Rattle.game_core.specs.Play.{Rules}
use Rattle.match_book.specs.Laws.{NewMatchIsLawful, AnswersKeepLawful, AbortKeepsLawful, RecordedMovesAreLegal, NoErrorMeansNamed, AnswersInPlay, TakenForTheRound, StartingMeans, PlayingMeans}

pub record MatchLaws {S M : Type 0} (g : Rules S M) : Type 0 where
  pub new : NewMatchIsLawful g
  pub answers : AnswersKeepLawful g
  pub aborts : AbortKeepsLawful g
  pub legal : RecordedMovesAreLegal g
  pub named : NoErrorMeansNamed g
  pub in_play : AnswersInPlay g
  pub for_round : TakenForTheRound g
  pub starting : StartingMeans g
  pub playing : PlayingMeans g
