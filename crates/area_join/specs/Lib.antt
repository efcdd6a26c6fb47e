pub mod Ahead
pub mod Join
