pub mod Entries
pub mod LookUp
pub mod Months
pub mod Slots
