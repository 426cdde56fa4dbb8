pub mod SpaceSaving
pub mod Buckets
pub mod Condensed
pub mod Counting
pub mod Laws
