pub mod BlockLemmas
pub mod MapLemmas
pub mod RunLemmas
pub mod WordLemmas
