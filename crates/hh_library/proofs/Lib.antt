pub mod AccumulatorFacts
pub mod AddFacts
pub mod BoundedFacts
pub mod CountFacts
pub mod LaidFacts
pub mod UnaskedFacts
