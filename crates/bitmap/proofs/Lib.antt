pub mod StateLaws
pub mod OpenLaws
pub mod LimitLaws
pub mod KeptLaws
pub mod ToldLaws
