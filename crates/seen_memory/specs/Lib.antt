pub mod Gathering
pub mod Parts
pub mod Seen
pub mod SeenLaws
pub mod Unread
