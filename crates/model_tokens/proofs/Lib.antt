pub mod Steps
pub mod CutNames
pub mod CutBytes
pub mod CutGaps
pub mod CutRuns
pub mod CutTokens
pub mod CutLaw
