pub mod CaseReadingLemmas
