pub mod Lengths
pub mod FieldSteps
pub mod Heads
pub mod Parsed
pub mod Stays
pub mod Found
pub mod MessageReads
pub mod WrittenTexts
