pub mod DescriptorLaws
pub mod StartLaws
pub mod FirstWordLaws
pub mod LimitLaws
