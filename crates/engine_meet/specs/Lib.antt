pub mod Meet
pub mod Cases
