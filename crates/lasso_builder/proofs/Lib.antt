pub mod Legs
pub mod Lowering
pub mod Laps
pub mod GraphSets
pub mod Cutting
pub mod StateRows
