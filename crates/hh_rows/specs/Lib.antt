pub mod Json
pub mod Laws
pub mod Outputs
pub mod Printed
pub mod Rows
pub mod Sinks
pub mod Thresholds
