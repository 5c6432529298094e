pub mod Representatives
pub mod Going
pub mod Laws
pub mod Standing
pub mod Findings
pub mod Lines
pub mod own
