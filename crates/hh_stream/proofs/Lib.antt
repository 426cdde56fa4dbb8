pub mod CuttingFacts
mod ItemFacts
pub mod TakingFacts
