pub mod Scheduling
pub mod Queues
pub mod Outputs
pub mod Seasons
