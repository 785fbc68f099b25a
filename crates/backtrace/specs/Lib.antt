pub mod Chain
pub mod MemoryWords
pub mod FrameWords
pub mod Agreeing
pub mod AgreeLaws
