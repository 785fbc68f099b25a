pub mod Config
pub mod Counting
pub mod Fronts
pub mod Keys
pub mod Printing
pub mod Requesting
pub mod Spooling
pub mod Values
