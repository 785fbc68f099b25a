pub mod LineLemmas
pub mod ReadingLemmas
pub mod EndingLemmas
pub mod PrintingLemmas
