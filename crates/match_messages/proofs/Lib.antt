pub mod Forms
pub mod Printed
pub mod Clocks
pub mod FirstWords
pub mod ReadBack
