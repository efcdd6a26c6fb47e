pub mod Sum
pub mod Laws
pub mod Room
