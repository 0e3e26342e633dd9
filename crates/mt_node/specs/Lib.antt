pub mod Answered
pub mod Differences
pub mod Configured
pub mod Plan
pub mod mt_lasting
pub mod mt_machine
pub mod mt_regained
