pub mod AddedLaws
pub mod HexLaws
pub mod DecimalLaws
pub mod ReadingLaws
pub mod LengthLaws
