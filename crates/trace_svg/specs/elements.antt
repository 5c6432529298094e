pub mod Escapes
pub mod Words
pub mod Elements
