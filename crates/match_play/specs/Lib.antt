pub mod EndedMatches
pub mod Limits
pub mod LongestMoves
pub mod Matches
pub mod PlayedMatches
