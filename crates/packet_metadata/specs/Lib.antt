pub mod Checksum
pub mod Metadata
pub mod WriteMetadata
