pub mod Bytes
pub mod Files
pub mod Others
pub mod PartLemmas
pub mod Rows
