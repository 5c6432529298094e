pub use Rattle.trace_text.specs.Spelling
pub use Rattle.trace_text.specs.Writing
pub mod Copying
