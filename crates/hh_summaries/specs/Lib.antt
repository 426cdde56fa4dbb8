pub mod Counters
pub mod Faults
pub mod Report
