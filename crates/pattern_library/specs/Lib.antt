pub mod Patterns
pub mod Instances
pub mod PatternQueries
pub mod PatternNames
pub mod Shapes
pub mod Slots
pub mod Views
