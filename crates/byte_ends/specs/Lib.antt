pub mod Ends
pub mod Refills
