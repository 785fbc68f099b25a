pub mod Counts
pub mod CountLaws
