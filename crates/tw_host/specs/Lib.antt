pub mod ActionView
pub mod KeyTable
pub mod ElementView
pub mod CandidateView
pub mod HostRules
pub mod PlainAnswers
pub mod Faithful
