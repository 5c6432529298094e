pub mod Texts
pub mod Events
pub mod LiveLines
pub mod Numbers
pub mod Lines
pub mod own
