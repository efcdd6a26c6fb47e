pub mod RowsLaws
pub mod RowReads
