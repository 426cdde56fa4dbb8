pub mod MemberFacts
pub mod RowFacts
pub mod ShareFacts
pub mod StringFacts
pub mod TakeFacts
pub mod TextFacts
pub mod Utf8Facts
