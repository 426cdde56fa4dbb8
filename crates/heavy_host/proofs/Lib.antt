pub mod FileLemmas
pub mod ReplacingLemmas
pub mod WordLemmas
