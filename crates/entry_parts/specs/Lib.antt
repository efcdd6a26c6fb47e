pub mod Properties
pub mod Path
