pub mod Streams
pub mod Commands
pub mod NameLaws
pub mod Template
pub mod Expansion
pub mod Naming
