pub mod Raising
pub mod Sure
pub mod Bounds
pub mod Keeping
pub mod Reporting
pub mod Counted
