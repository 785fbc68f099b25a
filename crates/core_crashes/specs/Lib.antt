pub mod CaseReading
pub mod Crashes
pub mod Handled
pub mod Notes
pub mod Reading
pub mod Views
pub mod Walks
