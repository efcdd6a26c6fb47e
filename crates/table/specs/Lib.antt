pub mod Outcome
pub mod Tables
pub mod Open
pub mod Record
pub mod Close
pub mod WriteStatus
pub mod Told
