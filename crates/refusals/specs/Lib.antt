pub mod Refusals
pub mod Writing
pub mod Tests
pub mod Faults
