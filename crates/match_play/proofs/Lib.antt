mod EndedMatches
pub mod LongestMoves
