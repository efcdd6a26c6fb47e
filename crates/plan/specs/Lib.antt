pub mod Pieces
pub mod Planning
