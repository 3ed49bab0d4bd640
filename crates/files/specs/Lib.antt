pub mod Ends
pub mod Sources
pub mod Starts
