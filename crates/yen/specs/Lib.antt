pub mod Yen
