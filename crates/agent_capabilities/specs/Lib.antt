pub mod Coverage
pub mod Occurrences
