pub mod PieceLemmas
pub mod StreamLemmas
pub mod WordsLemmas
pub mod PlaceLemmas
pub mod ReadingLemmas
pub mod LoopLemmas
