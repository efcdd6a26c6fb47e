pub mod ChecksumLaws
pub mod MetadataLaws
pub mod WriteLaws
pub mod RoundTrip
pub mod LimitLaws
