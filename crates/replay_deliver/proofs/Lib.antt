pub mod AnsweredLaws
pub mod CaseLaws
pub mod LengthLaws
