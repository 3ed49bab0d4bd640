pub mod Bodies
pub mod Starts
