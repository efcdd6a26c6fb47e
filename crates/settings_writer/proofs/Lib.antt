pub mod WritingLaws
pub mod LimitLaws
