pub mod Words
pub mod Lines
pub mod Bodies
pub mod Columns
pub mod Entries
