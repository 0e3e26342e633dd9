pub mod Answered
pub mod Seals
