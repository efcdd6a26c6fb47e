pub mod Order
pub mod TableDemand3
pub mod Demand3
pub mod Absorbed
