pub mod BeaconLaws
pub mod LimitLaws
