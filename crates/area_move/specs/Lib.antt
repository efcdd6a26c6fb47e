pub mod Blocks
pub mod Changes
pub mod Moves
