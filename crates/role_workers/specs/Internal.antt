-- Definitions that only private functions use. The guarantees do not depend on them.
pub mod Promises
pub mod GivenUp
pub mod ShortRounds
