pub mod Asking
pub mod Requesting
pub mod Metrics
