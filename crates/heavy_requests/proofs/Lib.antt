pub mod FieldFacts
pub mod RequestLemmas
