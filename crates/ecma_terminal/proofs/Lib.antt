pub mod CellLemmas
pub mod GridLemmas
pub mod Fields
pub mod TerminalSteps
