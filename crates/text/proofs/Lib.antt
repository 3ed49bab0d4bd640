pub mod Runs
pub mod Ended
pub mod Records
pub mod Joins
pub mod Fronts
