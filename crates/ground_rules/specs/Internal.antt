-- Definitions that only private functions and proofs use.
pub mod Ranked
pub mod Resolved
pub mod Barred
pub mod SplitRules
pub mod GameParts
pub mod Vocabularies
