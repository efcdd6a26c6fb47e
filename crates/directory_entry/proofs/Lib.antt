pub mod EntryLaws
pub mod RoundTrip
pub mod LimitLaws
