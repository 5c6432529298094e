pub use Rattle.executor_model.specs.Answers
pub use Rattle.executor_model.specs.Flows
pub use Rattle.task_table.specs.Endings
pub use Rattle.live_core.specs.Said
pub use Rattle.live_core.specs.Shutting
pub use Rattle.timers.specs.Calls
pub mod Lasts
pub mod Narrow
