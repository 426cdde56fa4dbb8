pub mod BoundFacts
pub mod MergeFacts
