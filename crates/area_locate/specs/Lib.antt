pub mod Record
pub mod Locate
