pub mod TransferReads
pub mod AreasReadBack
pub mod MarksReadBack
