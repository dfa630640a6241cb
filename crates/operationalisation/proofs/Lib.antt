pub mod EachOf
pub mod PartTruth
pub mod Excluded
pub mod OperationLaws
