pub mod Held
pub mod Slots
pub mod Statuses
pub mod own
