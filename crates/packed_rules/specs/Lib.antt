pub mod Bits
pub mod Rows
pub mod PackedTables
pub mod PackedGames
pub mod Internal
