pub use Rattle.sched_time.specs.Times
pub use Rattle.delay_queue.specs.Queues
pub use Rattle.task_word.specs.Words
pub use Rattle.queue_code.specs.Calls
pub use Rattle.executor_model.specs.State
pub use Rattle.executor_model.specs.Tasks as ModelTasks
pub use Rattle.task_table.specs.Seats
pub use Rattle.task_table.specs.Tables
pub mod Numbered
pub mod Tasks
pub mod own
