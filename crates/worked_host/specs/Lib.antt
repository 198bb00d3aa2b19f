pub mod Commands
pub mod CommandRules
