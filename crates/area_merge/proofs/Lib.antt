pub mod LimitLaws
pub mod MergeLaws
pub mod OperationLaws
pub mod MergingLaws
