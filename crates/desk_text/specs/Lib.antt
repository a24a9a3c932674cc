pub mod Words
pub mod ScriptLines
pub mod Escapes
pub mod Account
pub mod AccountLines
pub mod Replaying
