pub mod WriteBeacon
