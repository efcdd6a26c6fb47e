pub mod BufferLaws
pub mod LengthLaws
