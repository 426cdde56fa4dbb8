pub mod Changes
pub mod Faults
pub mod Held
pub mod Infos
pub mod Items
pub mod Layouts
pub mod Outcomes
