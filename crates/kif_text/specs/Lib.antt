pub mod Spelling
pub mod Faults
pub mod View
pub mod Machine
pub mod Reading
pub mod Laws
pub mod Internal
