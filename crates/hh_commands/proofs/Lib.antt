pub mod BoundsFacts
pub mod FileFacts
pub mod KeyFacts
pub mod NameFacts
pub mod TableFacts
