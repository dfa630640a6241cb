pub mod ValuesTexts
pub mod Summaries
pub mod VerdictLaws
