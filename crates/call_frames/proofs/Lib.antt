pub mod Groups
pub mod Letters
pub mod SpotPlaces
pub mod Search
pub mod Earliest
pub mod Order
pub mod Walking
pub mod Numbers
