pub mod LawLemmas
pub mod PlainLemmas
pub mod HashLemmas
pub mod DigestLemmas
pub mod ReadLemmas
pub mod HavingLemmas
