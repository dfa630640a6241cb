pub mod CoreForm
pub mod CoreLists
pub mod CoreTexts
pub mod CoreTree
pub mod CoreView
pub mod Weights
