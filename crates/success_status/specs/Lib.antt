pub mod SuccessStatus
