pub mod Layout
pub mod Places
pub mod Judge
pub mod Stored
pub mod Operations
pub mod Used
