pub mod PieceLaws
pub mod HeardLaws
