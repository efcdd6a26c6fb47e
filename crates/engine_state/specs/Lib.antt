pub mod Layout
pub mod State
