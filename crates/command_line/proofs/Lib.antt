pub mod Getters
pub mod KnownCommand
