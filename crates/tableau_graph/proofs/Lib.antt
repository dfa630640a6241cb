pub mod Puts
pub mod Growth
pub mod Wholes
pub mod Joins
