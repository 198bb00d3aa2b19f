pub mod Log
pub mod Script
pub mod TerminalState
pub mod Uses
