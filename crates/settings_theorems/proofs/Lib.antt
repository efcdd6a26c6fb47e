pub mod NumberLaws
pub mod VersionLaws
pub mod ReadsBack
pub mod WritesBack
pub mod AcceptedLaws
pub mod FaultLaws
pub mod Examples
