pub mod Descriptor
pub mod FileList
pub mod DescriptorWords
pub mod FileWords
pub mod Typed
pub mod NoteWords
pub mod CoreWords
pub mod FieldNames
