pub mod Runs
pub mod Holes
pub mod Splice
pub mod Received
