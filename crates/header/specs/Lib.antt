pub mod FirstWord
pub mod Start
pub mod Descriptor
