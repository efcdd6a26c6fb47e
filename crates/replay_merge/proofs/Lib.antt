pub mod TableLaws
pub mod MergedLaws
pub mod LengthLaws
pub mod Examples
