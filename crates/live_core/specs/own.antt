-- What no public clause of this crate, or of those above it, leads to: means of its own contracts and proofs.
pub mod Slots
pub mod Changes
pub mod Formed
pub mod Shed
pub mod Places
pub mod Restoring
