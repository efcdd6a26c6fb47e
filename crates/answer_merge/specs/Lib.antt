pub mod MergeAnswers
pub mod Reported
