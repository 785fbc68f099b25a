pub mod BarLemmas
pub mod ReadingLemmas
pub mod EscapeLemmas
pub mod PieceLemmas
pub mod PageLemmas
