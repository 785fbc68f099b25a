pub mod Names
pub mod Entries
pub mod Looking
pub mod Covering
pub mod Whole
