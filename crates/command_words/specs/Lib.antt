pub mod Grammar
pub mod Handling
pub mod Lines
pub mod Notes
pub mod RawWords
pub mod Words
