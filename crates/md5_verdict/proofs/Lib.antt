pub mod VerdictLaws
pub mod MeaningLaws
