pub mod SplicedRowLaws
pub mod OverlayLaws
pub mod SplicedAreaLaws
pub mod KeepLaws
pub mod StampedAreaLaws
