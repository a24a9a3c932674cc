pub mod Addresses
pub mod Numbers
pub mod Schedules
