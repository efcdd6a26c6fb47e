pub mod DueLaws
pub mod KindLaws
pub mod PlaceLaws
