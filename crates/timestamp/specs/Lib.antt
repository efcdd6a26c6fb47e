pub mod Timestamps
