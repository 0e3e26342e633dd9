pub mod Counts
pub mod Follow
pub mod Over
pub mod Parts
pub mod Sweeps
