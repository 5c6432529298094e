pub mod ClockLists
pub mod Taking
pub mod Reading
pub mod Courses
pub mod Texts
pub mod Fits
pub mod Runs
pub mod Whole
