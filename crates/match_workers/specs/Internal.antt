-- Definitions that only private functions use. The guarantees do not depend on them.
pub mod Closings
