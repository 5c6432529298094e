-- What no public clause of this crate leads to: means of its own contracts and proofs.
pub mod Sets
pub mod Marks
