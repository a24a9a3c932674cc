pub mod OpenAnswers
pub mod Kept
