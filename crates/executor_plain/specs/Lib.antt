pub use Rattle.queue_code.specs.Calls
pub use Rattle.executor_model.specs.View
pub use Rattle.executor_model.specs.Answers
pub use Rattle.executor_model.specs.Histories
pub use Rattle.executor_model.specs.Flows
pub use Rattle.executor_model.specs.Within
pub mod own
