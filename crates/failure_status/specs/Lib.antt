pub mod WriteFailure
