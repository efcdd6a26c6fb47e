pub mod WriteBeaconLaws
pub mod RoundTrip
pub mod LimitLaws
