pub use Rattle.queue_code.specs.Calls
pub use Rattle.executor_model.specs.Histories
pub use Rattle.executor_model.specs.Flows
pub use Rattle.trace_text.specs.Spelling
pub use Rattle.call_text.specs.Spelling as CallSpelling
pub use Rattle.call_text.specs.Reading as CallReading
pub use Rattle.call_journal.specs.Journals
pub use Rattle.call_journal.specs.MadeCalls
pub use Rattle.byte_ends.specs.Ends
pub use Rattle.sched_engine.specs.Running
pub mod LiveLines
pub mod LiveRuns
pub mod JournalLaws
pub mod own
