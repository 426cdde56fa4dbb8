pub mod Rooms
pub mod Top
pub mod Laws
