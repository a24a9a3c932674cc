pub mod Games
pub mod CountdownText
