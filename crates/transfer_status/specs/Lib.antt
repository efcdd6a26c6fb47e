pub mod WriteStatus
