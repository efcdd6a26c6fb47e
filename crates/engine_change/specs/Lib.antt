pub mod Changed
pub mod Making
