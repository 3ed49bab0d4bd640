pub mod Counts
pub mod Standard
pub mod Months
