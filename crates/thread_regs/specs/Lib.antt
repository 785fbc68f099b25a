pub mod Register
pub mod SignalNames
pub mod RegisterWords
pub mod ThreadWords
