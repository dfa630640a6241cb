pub mod Causes
pub mod Shapes
pub mod Validity
pub mod Passing
