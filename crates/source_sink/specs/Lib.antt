pub mod Bytes
pub mod Causes
pub mod Plans
pub mod Decimals
