pub mod NextLaws
pub mod SyncLaws
pub mod PageLaws
pub mod PlaceLaws
pub mod ReportLaws
