pub mod Touches
pub mod slots
pub mod Queues
pub mod own
