pub mod Steps
pub mod Lengths
pub mod Notings
pub mod Going
pub mod Ending
pub mod Counting
pub mod Replied
pub mod NotedPlans
