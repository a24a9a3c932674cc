pub mod Faults
pub mod Descriptors
pub mod LoadedGame
pub mod Schedules
pub mod Runs
pub mod Tasks
