-- What no public clause of this crate, or of those above it, leads to: means of their own contracts and proofs.
pub mod Kept
pub mod Phases
pub mod Said
pub mod Soundness
pub mod Within
