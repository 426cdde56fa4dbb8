pub mod Weights
pub mod Level
pub mod Summaries
pub mod Reports
pub mod Places
pub mod Summing
