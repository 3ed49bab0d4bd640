pub mod Priced
pub mod Walk
pub mod Smallness
pub mod Facts
pub mod Totals
