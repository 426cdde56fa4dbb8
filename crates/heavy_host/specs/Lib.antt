pub mod Files
pub mod Opening
pub mod Replacing
pub mod Words
