pub mod State
pub mod Open
pub mod Judged
