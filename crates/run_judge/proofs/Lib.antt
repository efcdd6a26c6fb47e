pub mod JudgeLaws
pub mod LoopLaws
