pub mod Faults
pub mod Limits
