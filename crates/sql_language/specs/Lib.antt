pub mod Lexer
pub mod Lexemes
pub mod Statements
pub mod SqlWords
pub mod Names
