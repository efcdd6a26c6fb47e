pub mod TakenLaws
pub mod MadeLaws
pub mod ChangeLaws
