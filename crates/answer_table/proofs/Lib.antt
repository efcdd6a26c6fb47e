pub mod ReportLaws
pub mod NumberLaws
