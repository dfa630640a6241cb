mod RefinementLaws
pub mod ItemCounts
pub mod MarkedGoals
pub mod Supporting
