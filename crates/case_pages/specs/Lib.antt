pub mod Times
pub mod Bars
pub mod Names
pub mod Escaping
pub mod Html
pub mod Pieces
pub mod Pages
pub mod PageWords
