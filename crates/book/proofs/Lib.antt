pub mod Emptied
pub mod Adding
pub mod Kept
pub mod Has
pub mod Closing
pub mod Theorem
