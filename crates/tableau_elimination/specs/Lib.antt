pub mod Marks
pub mod CertNodes
pub mod Outcomes
