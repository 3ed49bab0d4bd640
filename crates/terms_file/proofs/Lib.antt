pub mod Lines
pub mod RangeTable
pub mod InRange
pub mod Verdicts
