pub mod Gathered
pub mod Pieces
pub mod PlanTexts
pub mod Plans
pub mod Trees
pub mod Workers
