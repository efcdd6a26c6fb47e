pub mod LimitLaws
pub mod MergeLaws
pub mod AnswerLaws
pub mod MergingLaws
