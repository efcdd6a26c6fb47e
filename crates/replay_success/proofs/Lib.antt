pub mod HoleLaws
pub mod HoleLengthLaws
