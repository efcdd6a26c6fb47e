pub mod ReadLaws
pub mod CaseLaws
pub mod RoundTrip
pub mod LimitLaws
