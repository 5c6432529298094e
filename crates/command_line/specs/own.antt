-- What no public clause of this crate, or of those above it, leads to: means of its own contracts and proofs.
pub mod Programs
