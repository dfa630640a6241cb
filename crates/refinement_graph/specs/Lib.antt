pub mod Refinements
pub mod Assurance
pub mod Marking
