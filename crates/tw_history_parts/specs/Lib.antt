pub mod HistoryFile
pub mod Recent
pub mod Written
