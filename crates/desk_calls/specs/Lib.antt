pub mod Names
pub mod Answers
pub mod Phases
pub mod Laws
