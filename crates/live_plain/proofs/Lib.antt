pub mod Showing
pub mod Taking
