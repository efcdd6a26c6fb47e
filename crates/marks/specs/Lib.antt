pub mod Marks
pub mod MarkedRuns
pub mod Walk
