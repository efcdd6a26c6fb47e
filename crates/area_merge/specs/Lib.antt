pub mod Merge
pub mod Merging
