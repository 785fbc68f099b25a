pub mod NameTables
pub mod Words
