pub mod ChangeFacts
pub mod HeldValues
pub mod LayoutFacts
pub mod OutcomeFacts
