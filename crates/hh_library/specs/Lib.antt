pub mod Accumulator
pub mod Add
pub mod Asked
pub mod Confirm
pub mod CountItems
pub mod Entries
pub mod LaidOut
