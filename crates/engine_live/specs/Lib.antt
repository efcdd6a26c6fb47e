pub mod Live
pub mod Walk
