-- What no public clause of this crate, or of those above it, leads to: means of its own contracts and proofs.
pub mod Reads
pub mod Rows
pub mod Values
pub mod Walk
pub mod Texts
pub mod Subjects
pub mod Plain
pub mod Migrating
