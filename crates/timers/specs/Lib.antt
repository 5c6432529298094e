pub mod Timers
pub mod Calls
pub mod own
