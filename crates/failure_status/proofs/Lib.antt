pub mod FailureLaws
pub mod RoundTrip
pub mod LimitLaws
pub mod Vectors
