pub mod LineWords
pub mod Fields
