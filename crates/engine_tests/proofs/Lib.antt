pub mod Numbers
pub mod SmallLists
