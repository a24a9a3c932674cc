pub mod RoleTests
pub mod NamedMoves
pub mod AnswerReadings
pub mod Judgements
pub mod TurnParts
pub mod StruckTurns
pub mod Stages
pub mod LawfulTurns
pub mod LawfulMatches
pub mod KeptMatches
pub mod AnswerLaws
pub mod Progress
pub mod AnsweredMessages
mod StrictMatches
