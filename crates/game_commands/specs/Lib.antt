pub mod Script
pub mod ScriptFaults
pub mod Verdicts
pub mod Checks
pub mod Whole
pub mod Interactive
pub mod Replays
pub mod Commands
