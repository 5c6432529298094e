pub mod Roomy
pub mod Kept
