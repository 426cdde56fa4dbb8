pub mod Settings
pub mod Trees
pub mod Passes
pub mod Progress
pub mod Outcomes
pub mod Laws
