pub mod Put
pub mod Join
