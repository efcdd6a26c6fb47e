pub mod TakenLaws
pub mod StretchLaws
pub mod LookLaws
pub mod StoreLaws
