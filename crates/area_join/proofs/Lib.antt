pub mod ExtendLaws
pub mod AheadLaws
