pub mod WordLemmas
pub mod TokenLemmas
pub mod SettlingLemmas
pub mod BeginningLemmas
