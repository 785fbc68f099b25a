pub mod Steps
pub mod Kept
pub mod Standing
pub mod Turns
pub mod Running
pub mod Lasting
