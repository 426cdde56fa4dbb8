pub mod FieldFacts
pub mod LawFacts
pub mod MemberFacts
pub mod ObjectFacts
pub mod PathFacts
