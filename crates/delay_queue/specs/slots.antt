pub mod Entries
pub mod Queues
pub mod own
