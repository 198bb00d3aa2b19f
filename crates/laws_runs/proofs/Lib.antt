pub mod DrawnRunLemmas
pub mod ReachLemmas
pub mod SentRunLemmas
pub mod ReadingLemmas
pub mod RestLemmas
pub mod WorkedParts
mod WorkedRuns
mod WorkedSentRuns
mod WorkedHealedRuns
