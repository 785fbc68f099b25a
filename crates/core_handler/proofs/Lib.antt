pub mod FrontLemmas
pub mod NamingLemmas
