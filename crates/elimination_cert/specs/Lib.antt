pub mod CertTexts
pub mod Readings
pub mod Endings
pub mod Guesses
pub mod Lines
