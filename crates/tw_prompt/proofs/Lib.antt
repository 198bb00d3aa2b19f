pub mod JoinedLemmas
pub mod PlaceLemmas
