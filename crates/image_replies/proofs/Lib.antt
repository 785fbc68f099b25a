pub mod TextLemmas
pub mod NameLemmas
pub mod CountLemmas
pub mod FrontLemmas
