pub mod BlockLaws
pub mod Strings
