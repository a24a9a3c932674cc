-- Definitions that only private functions and proofs use. The guarantees do not depend on them.
pub mod Slots
pub mod MatchLaws
pub mod AskedSetups
pub mod StepLaws
