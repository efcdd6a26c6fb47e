pub mod Added
pub mod Decimal
pub mod Hex
pub mod Reading
