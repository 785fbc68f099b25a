pub mod LineWords
pub mod Keys
pub mod Queries
pub mod Said
pub mod Commands
