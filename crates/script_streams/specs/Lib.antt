pub mod Lines
pub mod Reading
pub mod GoingOn
pub mod Printing
pub mod PrintLaws
pub mod Writing
pub mod Replies
