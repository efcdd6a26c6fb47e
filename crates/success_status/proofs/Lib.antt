pub mod FlagLaws
pub mod SizeLaws
pub mod PutLaws
pub mod RoundTrip
