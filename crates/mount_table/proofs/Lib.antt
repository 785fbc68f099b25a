pub mod PieceLemmas
pub mod LawLemmas
