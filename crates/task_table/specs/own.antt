-- What no public clause of this crate, or of those above it, leads to: means of its own contracts and proofs.
pub mod Working
pub mod Queues
pub mod Heads
pub mod Found
pub mod Restoring
