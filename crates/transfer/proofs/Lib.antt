pub mod FieldLaws
pub mod StampLaws
pub mod ReachedLaws
pub mod ExtendLaws
pub mod LimitLaws
pub mod LengthLaws
