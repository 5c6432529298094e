pub mod Standing
pub mod Told
pub mod own
