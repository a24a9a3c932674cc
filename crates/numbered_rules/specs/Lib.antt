pub mod Literals
pub mod Fit
pub mod Numbered
pub mod Needs
pub mod Order
pub mod Exposed
pub mod Internal
