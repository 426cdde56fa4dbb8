pub mod Laws
pub mod Reading
pub mod Sizes
pub mod Spelling
