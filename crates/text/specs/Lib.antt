pub mod Front
pub mod Number
pub mod Files
pub mod Puts
