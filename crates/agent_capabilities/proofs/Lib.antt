pub mod Occurring
pub mod Covering
pub mod Variables
pub mod Searching
