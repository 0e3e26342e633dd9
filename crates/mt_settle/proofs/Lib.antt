pub mod Refused
pub mod Stops
