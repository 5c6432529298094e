pub mod Pairs
pub mod Counting
pub mod Numbered
pub mod Entries
