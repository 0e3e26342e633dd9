pub mod Begins
pub mod Faults
pub mod Keeps
pub mod Serves
