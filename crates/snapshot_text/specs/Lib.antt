pub mod Sums
pub mod Spelling
pub mod Reading
pub mod Snapshots
pub mod Writing
pub mod own
