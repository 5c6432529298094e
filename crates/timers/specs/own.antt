-- What no public clause of this crate leads to: means of its own contracts and proofs.
pub mod Runs
pub mod Rooms
pub mod Formed
