pub mod HandedLaws
pub mod HeldLaws
