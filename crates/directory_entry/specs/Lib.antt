pub mod Entry
pub mod WriteEntry
