pub mod MarkLemmas
pub mod SieveLemmas
pub mod TypedLemmas
mod WorkedBytes
