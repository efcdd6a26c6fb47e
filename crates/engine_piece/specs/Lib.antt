pub mod Piece
pub mod Known
