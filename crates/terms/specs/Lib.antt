pub mod Ranges
pub mod Fractions
pub mod Bounds
pub mod Price
pub mod Refusals
pub mod Sound
