pub mod OwnerLemmas
pub mod WeighLemmas
mod TotalLemmas
