pub mod Lines
pub mod Bodies
pub mod Contents
pub mod Refusals
