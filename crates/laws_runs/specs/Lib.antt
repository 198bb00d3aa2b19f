pub mod Rests
pub mod SentRuns
pub mod SentReadings
pub mod PlainRuns
pub mod DrawnRuns
