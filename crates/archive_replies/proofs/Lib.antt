pub mod CaseLemmas
