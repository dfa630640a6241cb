pub mod Tokens
pub mod Values
pub mod Signs
pub mod Lexing
pub mod LexerView
pub mod Versions
pub mod Cuts
