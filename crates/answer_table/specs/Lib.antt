pub mod TableAnswers
pub mod Reported
