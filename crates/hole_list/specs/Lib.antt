pub mod HoleList
pub mod DescriptorList
pub mod Pairs
