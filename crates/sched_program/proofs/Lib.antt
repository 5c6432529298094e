pub mod Ends
pub mod EndCounts
pub mod Writings
pub mod FineLints
