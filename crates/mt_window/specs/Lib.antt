pub mod Counters
pub mod Standing
