pub mod Notes
pub mod NoteGrammar
pub mod NoteWords
pub mod BuildId
pub mod BuildName
pub mod DebugFile
pub mod Fronts
