pub mod Decimals
pub mod Formats
pub mod Laws
pub mod LayoutWords
pub mod Layouts
pub mod Refusals
pub mod Streams
pub mod Taking
