pub mod LexerLemmas
pub mod LexemeLemmas
pub mod StatementLemmas
pub mod TokenLemmas
