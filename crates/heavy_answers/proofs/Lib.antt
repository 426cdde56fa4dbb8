pub mod AnswerLemmas
pub mod InputLemmas
mod SavedLemmas
