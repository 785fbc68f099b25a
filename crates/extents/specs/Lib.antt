pub mod FreeLaws
pub mod FreeSet
pub mod FreeWords
pub mod RunLaws
pub mod Runs
