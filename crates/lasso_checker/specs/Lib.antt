pub mod Places
pub mod Layouts
pub mod Operators
pub mod Scratch
pub mod Lists
pub mod Atoms
