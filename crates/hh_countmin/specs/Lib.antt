pub mod Family
pub mod FamilyEq
pub mod Faults
pub mod Laws
pub mod Table
