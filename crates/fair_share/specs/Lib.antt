pub mod Owners
pub mod Fairness
pub mod Weighing
pub mod Laws
pub mod FairLaws
pub mod Totals
