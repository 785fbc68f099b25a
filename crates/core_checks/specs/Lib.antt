pub mod Whole
pub mod Unread
