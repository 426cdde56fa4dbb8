pub mod ClaimFacts
pub mod CutFacts
pub mod GatherFacts
pub mod LeafFacts
pub mod NumberFacts
pub mod ParsingFacts
pub mod PieceSums
pub mod TreeFacts
