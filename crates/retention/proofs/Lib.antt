pub mod StayLemmas
pub mod RisingLemmas
pub mod KindLemmas
mod OneLemmas
