pub mod Shortages
pub mod Deadlines
pub mod Contacts
pub mod Budgets
pub mod Players
pub mod Paces
pub mod Lookups
