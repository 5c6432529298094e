pub mod Opened
pub mod Steps
