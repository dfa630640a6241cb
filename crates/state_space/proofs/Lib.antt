pub mod BitSets
pub mod NameForms
pub mod NameIndexes
pub mod NameLists
pub mod Places
pub mod SpaceFacts
pub mod Spellings
pub mod Listing
