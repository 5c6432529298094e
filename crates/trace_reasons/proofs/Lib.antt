pub mod Newlines
pub mod Conforming
pub mod Differing
