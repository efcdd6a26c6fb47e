pub mod Opening
pub mod Transfers
pub mod Record
