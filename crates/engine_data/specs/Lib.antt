pub mod Store
pub mod Taken
