pub mod Ranges
pub mod Tries
