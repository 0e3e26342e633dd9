pub mod Rounds
pub mod Receives
