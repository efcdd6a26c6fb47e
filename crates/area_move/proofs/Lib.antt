pub mod BlockLaws
pub mod ChangeLaws
pub mod CopyLaws
pub mod StoredBlocks
pub mod TransferMoves
