pub mod StatusLaws
pub mod Vectors
pub mod LimitLaws
