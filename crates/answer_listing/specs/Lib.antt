pub mod ListedAnswers
pub mod ReportedListings
