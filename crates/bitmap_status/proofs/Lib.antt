pub mod StatusLaws
pub mod LimitLaws
