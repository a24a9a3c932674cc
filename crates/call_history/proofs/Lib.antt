pub mod Histories
pub mod ReturnedLines
pub mod Tellings
pub mod ServedLines
pub mod NewLines
pub mod ReturnedEnds
pub mod DeskLines
pub mod PartTotals
