pub mod Orders
pub mod Drawings
pub mod Readings
pub mod OneLines
pub mod Lived
pub mod Lints
