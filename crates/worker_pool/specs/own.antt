-- What no public clause of this crate, or of those above it, leads to but through the invariant of a type: means of its
-- own contracts and proofs.
pub mod Moves
pub mod Steps
pub mod Results
pub mod Shifts
pub mod Seen
