pub mod Speaks
pub mod Told
