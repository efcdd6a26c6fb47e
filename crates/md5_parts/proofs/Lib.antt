pub mod FedLaws
pub mod Parts
