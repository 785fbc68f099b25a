pub mod NameLemmas
pub mod PartLemmas
