pub mod RecordLaws
pub mod OpenLaws
pub mod BothReceivers
pub mod Example
