pub mod WordLemmas
pub mod NumberLemmas
pub mod PrintingLemmas
pub mod TextLemmas
pub mod LawLemmas
