pub mod Data
pub mod WriteData
