mod Substitution
mod Filling
mod Operators
mod FivePatterns
mod Bindings
mod Listed
mod Placeholders
pub mod LibraryLaws
