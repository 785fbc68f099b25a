pub mod Cases
pub mod KeptWords
pub mod Lookups
pub mod Pruning
pub mod PruningLaws
