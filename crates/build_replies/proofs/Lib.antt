pub mod NameLemmas
pub mod AnswerLemmas
pub mod PlaceLemmas
pub mod WantLemmas
pub mod UsedLemmas
