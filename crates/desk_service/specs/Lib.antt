pub mod Rows
pub mod Conversations
