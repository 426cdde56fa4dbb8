pub mod ListFacts
pub mod MergeFacts
pub mod ChangeFacts
pub mod ShareFacts
