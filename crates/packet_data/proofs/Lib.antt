pub mod DataLaws
pub mod WriteDataLaws
pub mod RoundTrip
pub mod LimitLaws
