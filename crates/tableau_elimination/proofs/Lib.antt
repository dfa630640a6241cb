pub mod MarkSteps
pub mod WaitSteps
pub mod RoundSteps
pub mod CertLists
pub mod Certifying
pub mod Places
pub mod RightMarks
