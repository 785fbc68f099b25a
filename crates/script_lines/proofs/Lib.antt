pub mod WordLemmas
pub mod KeyLemmas
pub mod NeedleLemmas
pub mod QueryLemmas
