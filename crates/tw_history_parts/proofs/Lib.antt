pub mod CopiesLemmas
pub mod FileLemmas
pub mod ReadingLemmas
pub mod RecentLemmas
