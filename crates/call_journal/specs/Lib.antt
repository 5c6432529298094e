pub mod Journals
pub mod Plans
pub mod MadeCalls
