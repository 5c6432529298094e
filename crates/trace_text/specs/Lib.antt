pub use Rattle.executor_model.specs.Histories
pub mod Spelling
pub mod Reading
pub mod Writing
pub mod own
