pub mod Done
pub mod ToPlay
