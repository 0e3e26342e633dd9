pub mod Lines
pub mod Next
pub mod Reopenings
pub mod Runs
pub mod Sample
