pub mod Cells
mod Digits
pub mod Drawing
pub mod Estimates
pub mod Families
pub mod Powers
pub mod Raising
pub mod Tables
