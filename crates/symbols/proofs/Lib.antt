pub mod Entries
pub mod Sections
pub mod StringEnds
pub mod NameEnds
pub mod Best
pub mod Naming
