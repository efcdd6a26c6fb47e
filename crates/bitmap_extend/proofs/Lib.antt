pub mod ExtendLaws
pub mod RecordLaws
pub mod LimitLaws
pub mod KeptLaws
pub mod ToldLaws
