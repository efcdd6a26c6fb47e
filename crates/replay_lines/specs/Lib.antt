pub mod Lines
pub mod Body
