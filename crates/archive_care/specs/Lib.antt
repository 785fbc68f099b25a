pub mod Bytes
pub mod Copied
pub mod Images
pub mod Placing
pub mod Planning
