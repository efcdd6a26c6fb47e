pub mod StampLaws
pub mod KeptLaws
