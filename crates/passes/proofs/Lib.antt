pub mod EmptyFile
pub mod Passes
