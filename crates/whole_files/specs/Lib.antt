pub mod Calls
pub mod Part
pub mod Whole
