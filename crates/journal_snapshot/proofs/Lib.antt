pub mod EntryLemmas
pub mod HalfLemmas
pub mod MeasureLemmas
pub mod RewriteLemmas
pub mod SeqLemmas
