pub mod Texts
pub mod Verdicts
pub mod Gaps
pub mod GapLaws
pub mod Checking
