pub mod FoundLemmas
pub mod QuoteLemmas
pub mod TextLemmas
pub mod ThreadLemmas
