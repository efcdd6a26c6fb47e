pub mod BitLaws
pub mod MarkedRunsLaws
pub mod MarkLaws
pub mod LoopLaws
pub mod Examples
