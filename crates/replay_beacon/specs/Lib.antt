pub mod BeaconLine
