pub mod Words
pub mod WordsLeft
pub mod Number
pub mod Digits
pub mod Text
pub mod Printing
pub mod Hex
pub mod Pairs
