pub mod NotePlaces
pub mod Grammar
pub mod HeaderPlaces
pub mod SectionRows
pub mod NameLaws
pub mod FrontIds
