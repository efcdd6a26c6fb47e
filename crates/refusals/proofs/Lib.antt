pub mod TestLaws
pub mod RefusalLaws
pub mod WritingLaws
pub mod LimitLaws
pub mod ReasonLaws
pub mod FaultLaws
