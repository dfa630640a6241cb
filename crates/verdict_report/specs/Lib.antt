pub mod Deciding
pub mod Verdicts
pub mod Reports
pub mod Fitting
pub mod LassoTexts
pub mod ReportTexts
pub mod Laws
