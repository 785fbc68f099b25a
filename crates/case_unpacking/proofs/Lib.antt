pub mod ApartLemmas
pub mod ContentLemmas
pub mod FolderLemmas
pub mod InsideLemmas
pub mod NumberLemmas
pub mod PathLemmas
pub mod PlaceLemmas
