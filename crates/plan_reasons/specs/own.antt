-- What no public clause of this crate leads to: means of its own contracts and proofs.
pub mod Keys
pub mod Details
